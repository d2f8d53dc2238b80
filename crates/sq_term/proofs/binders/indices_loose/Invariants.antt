use Rattle.std.proofs.Common.{◌≡◌, max, drop}
use Rattle.sq_term.specs.Closed.{indices_loose}
use Rattle.sq_term.proofs.binders.indices_loose.Given as goal

abbrev pub invariant-loop-i : goal.invariant-loop-i
invariant-loop-i l = max l.most (indices_loose (drop l.i-index l.indices)) ≡ indices_loose l.indices
