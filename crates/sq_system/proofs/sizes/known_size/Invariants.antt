use Rattle.std.proofs.Common.{◌≡◌, min, map, ◌+◌, ◌≤◌, drop}
use Rattle.sq_system.specs.Sequents.{item_of}
use Rattle.sq_system.specs.Sizes.{known_size}
use Rattle.sq_system.proofs.sizes.known_size.Given as goal

abbrev pub invariant-loop-items : goal.invariant-loop-items
invariant-loop-items l =
    (min (l.nodes + (known_size (map (map item_of) (drop l.items-index l.known))))
    18446744073709551615 ≡ min (known_size (map (map item_of) l.known)) 18446744073709551615)
    × (l.nodes ≤ 18446744073709551615)
