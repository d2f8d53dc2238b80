use Rattle.std.proofs.Common.{◌≡◌, min, max, map, ◌≤◌, drop}
use Rattle.sq_term.specs.View.{term_tree}
use Rattle.sq_system.specs.Sizes.{all_depth}
use Rattle.sq_system.proofs.sizes.all_depth.Given as goal

abbrev pub invariant-loop-term : goal.invariant-loop-term
invariant-loop-term l =
    (min (max l.most (all_depth (map term_tree (drop l.term-index l.terms)))) 18446744073709551615
    ≡ min (all_depth (map term_tree l.terms)) 18446744073709551615)
    × (l.most ≤ 18446744073709551615)
