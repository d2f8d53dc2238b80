use Rattle.std.proofs.Common.{◌≡◌, take, map}
use Rattle.sq_subst.specs.Changes.{leaves}
use Rattle.sq_subst.proofs.walk.changed_indices.Given as goal

abbrev pub invariant-loop-i : goal.invariant-loop-i
invariant-loop-i l =
    l.out ≡ map ((leaves l.change).index l.binders) (take l.i-index l.indices)
