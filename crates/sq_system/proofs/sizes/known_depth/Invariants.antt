use Rattle.std.proofs.Common.{◌≡◌, min, max, map, ◌≤◌, drop}
use Rattle.sq_system.specs.Sequents.{item_of}
use Rattle.sq_system.specs.Sizes.{known_depth}
use Rattle.sq_system.proofs.sizes.known_depth.Given as goal

abbrev pub invariant-loop-items : goal.invariant-loop-items
invariant-loop-items l =
    (min (max l.most (known_depth (map (map item_of) (drop l.items-index l.known))))
    18446744073709551615 ≡ min (known_depth (map (map item_of) l.known)) 18446744073709551615)
    × (l.most ≤ 18446744073709551615)
