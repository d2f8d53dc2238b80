use Rattle.std.proofs.Common.{◌≡◌, ◌≤◌, ◌++◌, map, length, drop}
use Rattle.std.specs.Prelude.{flat_map}
use Rattle.sq_term.specs.Lists.{count}
use Rattle.sq_ground.specs.Calls.Instances.{with_index}
use Rattle.sq_ground.proofs.instances.one_more.Given as goal

abbrev pub invariant-loop-bs : goal.invariant-loop-bs
invariant-loop-bs l = record {
  rest : l.longer ++ flat_map (λ bs. map (with_index bs) (count 0 l.d)) (drop l.bs-index l.lists)
      ≡ flat_map (λ bs. map (with_index bs) (count 0 l.d)) l.lists;
  few : length l.longer ≤ 1024;
}
