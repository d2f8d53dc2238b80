use Rattle.std.proofs.Common.{◌≡◌, take, map}
use Rattle.sq_subst.specs.Renaming.{bound_index}
use Rattle.sq_occ.proofs.place.bound_indices.Given as goal

abbrev pub invariant-loop-i : goal.invariant-loop-i
invariant-loop-i l = l.out ≡ map (bound_index l.arity l.binders) (take l.i-index l.indices)
