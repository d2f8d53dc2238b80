use Rattle.sq_term.specs.View.{ts_tree}
use Rattle.sq_term.proofs.Closedness.{ts_closed-test}
use Rattle.sq_term.proofs.binders.is_ts_closed.Goals as goal

pub returns : goal.returns
returns c =
    rw (c.ts_loose.ensures, c.from.ensures) (ts_closed-test c.args.binders (ts_tree c.args.t.now))
