use Rattle.sq_print.specs.Scopes.{names_of}
use Rattle.sq_print.proofs.Supplied.{named_as_index}
use Rattle.sq_print.proofs.binders.Binders.bind.Goals as goal

pub returns-in-Message-clause-name : goal.returns-in-Message-clause-name
returns-in-Message-clause-name c =
    let b = c.args.self.now in
    rw (c.in-Message.is, (named_as_index (names_of c.args.scope.now) b.around).0)
    c.bind_index-in-Message.ensures.name

pub returns-in-Boolean-clause-name : goal.returns-in-Boolean-clause-name
returns-in-Boolean-clause-name c =
    let b = c.args.self.now in
    rw (c.in-Boolean.is, (named_as_index (names_of c.args.scope.now) b.around).1)
    c.bind_index-in-Boolean.ensures.name
