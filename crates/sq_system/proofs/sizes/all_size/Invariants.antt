use Rattle.std.proofs.Common.{◌≡◌, min, map, ◌+◌, ◌≤◌, drop}
use Rattle.sq_term.specs.View.{term_tree}
use Rattle.sq_system.specs.Sizes.{all_size}
use Rattle.sq_system.proofs.sizes.all_size.Given as goal

abbrev pub invariant-loop-term : goal.invariant-loop-term
invariant-loop-term l =
    (min (l.nodes + (all_size (map term_tree (drop l.term-index l.terms)))) 18446744073709551615
    ≡ min (all_size (map term_tree l.terms)) 18446744073709551615)
    × (l.nodes ≤ 18446744073709551615)
