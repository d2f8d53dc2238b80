use Rattle.sq_term.specs.View.{term_tree}
use Rattle.sq_term.proofs.Closedness.{is_closed-test}
use Rattle.sq_term.proofs.binders.is_closed.Goals as goal

pub returns : goal.returns
returns c =
    rw (c.loose.ensures, c.from.ensures) (is_closed-test c.args.binders (term_tree c.args.t.now))
