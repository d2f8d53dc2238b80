use Rattle.std.proofs.Common.{◌≡◌, ◌++◌, ◌-◌}
use Rattle.sq_occ.specs.Searches as spec
use Rattle.sq_occ.proofs.bodies.binders.Given as goal

abbrev pub invariant-loop-k : goal.invariant-loop-k
invariant-loop-k l =
    l.out ++ spec.binders l.within (l.count - l.k) ≡ spec.binders l.within l.count
