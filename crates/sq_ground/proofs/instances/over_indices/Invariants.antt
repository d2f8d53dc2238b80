use Rattle.std.proofs.Common.{◌≡◌, ◌-◌, ◌++◌, map}
use Rattle.sq_term.specs.Lists.{count}
use Rattle.sq_ground.specs.Calls.Instances.{with_index}
use Rattle.sq_ground.proofs.instances.over_indices.Given as goal

abbrev pub invariant-loop-k : goal.invariant-loop-k
invariant-loop-k l =
    l.lists ++ map (with_index l.bs) (count l.k (l.d - l.k)) ≡ map (with_index l.bs) (count 0 l.d)
