use Rattle.std.proofs.Common.{◌≡◌, ◌++◌, drop}
use Rattle.sq_run.proofs.goal.add_copies.Given as goal

abbrev pub invariant-loop-label : goal.invariant-loop-label
invariant-loop-label l = l.labels ++ drop l.label-index l.more ≡ l.fn.labels ++ l.more
