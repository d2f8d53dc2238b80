use Rattle.std.proofs.Common.{refl}
use Rattle.sq_print.specs.declared.binders.Binders.{Binders}
use Rattle.sq_print.specs.Scopes.{names_of}
use Rattle.sq_print.proofs.Supplied.{bound_time}
use Rattle.sq_print.proofs.binders.Binders.bind_time.Goals as goal

pub returns-clause-name : goal.returns-clause-name
returns-clause-name c =
    let new : Binders =
    record {
      around = c.push.new.self;
      indices = c.args.self.now.indices;
      times =
          c.next.new.self;
    } in
    (bound_time
    (names_of c.args.scope.now) c.args.self.now new c.in_ok-name.name c.requires
    c.in_ok-name.ensures.kept c.in_ok-name.ensures.used c.in_ok-name.ensures.name refl
    c.in_ok-push.ensures.ok).0

pub returns-clause-kept : goal.returns-clause-kept
returns-clause-kept c =
    let new : Binders =
    record {
      around = c.push.new.self;
      indices = c.args.self.now.indices;
      times =
          c.next.new.self;
    } in
    (bound_time
    (names_of c.args.scope.now) c.args.self.now new c.in_ok-name.name c.requires
    c.in_ok-name.ensures.kept c.in_ok-name.ensures.used c.in_ok-name.ensures.name refl
    c.in_ok-push.ensures.ok).1
