use Rattle.std.proofs.Common.{◌≡◌, take}
use Rattle.sq_sequent.proofs.premises.copy_known.Given as goal

abbrev pub invariant-loop-items : goal.invariant-loop-items
invariant-loop-items l = l.out ≡ take l.items-index l.known
