use Rattle.std.proofs.Common.{◌≡◌, min, ◌+◌, ◌≤◌, drop}
use Rattle.sq_term.specs.View.{term_trees}
use Rattle.sq_term.specs.Measure.{sizes}
use Rattle.sq_term.proofs.measures.+size.Given as goal

abbrev pub invariant-sizes-loop-term : goal.invariant-sizes-loop-term
invariant-sizes-loop-term l =
    (min (l.nodes + sizes (term_trees (drop l.term-index l.terms))) 18446744073709551615
    ≡ min (sizes (term_trees l.terms)) 18446744073709551615)
    × (l.nodes ≤ 18446744073709551615)
