use Rattle.std.proofs.Common.{◌≡◌, min, max, map, ◌≤◌, drop}
use Rattle.sq_system.specs.Sequents.{item_of}
use Rattle.sq_system.specs.Sizes.{items_depth}
use Rattle.sq_system.proofs.sizes.items_depth.Given as goal

abbrev pub invariant-loop-item : goal.invariant-loop-item
invariant-loop-item l =
    (min (max l.most (items_depth (map item_of (drop l.item-index l.items)))) 18446744073709551615
    ≡ min (items_depth (map item_of l.items)) 18446744073709551615)
    × (l.most ≤ 18446744073709551615)
