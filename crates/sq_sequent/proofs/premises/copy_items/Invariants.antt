use Rattle.std.proofs.Common.{◌≡◌, take}
use Rattle.sq_sequent.proofs.premises.copy_items.Given as goal

abbrev pub invariant-loop-item : goal.invariant-loop-item
invariant-loop-item l = l.out ≡ take l.item-index l.items
