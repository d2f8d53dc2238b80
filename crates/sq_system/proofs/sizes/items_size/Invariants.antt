use Rattle.std.proofs.Common.{◌≡◌, min, map, ◌+◌, ◌≤◌, drop}
use Rattle.sq_system.specs.Sequents.{item_of}
use Rattle.sq_system.specs.Sizes.{items_size}
use Rattle.sq_system.proofs.sizes.items_size.Given as goal

abbrev pub invariant-loop-item : goal.invariant-loop-item
invariant-loop-item l =
    (min (l.nodes + (items_size (map item_of (drop l.item-index l.items)))) 18446744073709551615
    ≡ min (items_size (map item_of l.items)) 18446744073709551615)
    × (l.nodes ≤ 18446744073709551615)
