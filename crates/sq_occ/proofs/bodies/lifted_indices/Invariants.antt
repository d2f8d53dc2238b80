use Rattle.std.proofs.Common.{◌≡◌, take, map}
use Rattle.sq_occ.specs.Searches as spec
use Rattle.sq_occ.proofs.bodies.lifted_indices.Given as goal

abbrev pub invariant-loop-i : goal.invariant-loop-i
invariant-loop-i l = l.out ≡ map (spec.lifted_idx l.more) (take l.i-index l.indices)
