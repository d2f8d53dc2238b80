use Rattle.std.proofs.Common.{◌≡◌, take}
use Rattle.sq_term.proofs.ground_equality.+same_ground.Given as goal

abbrev pub invariant-same_grounds-loop-i : goal.invariant-same_grounds-loop-i
invariant-same_grounds-loop-i l = take l.i l.a ≡ take l.i l.b
