use Rattle.std.proofs.Common.{◌≡◌, max, min, drop, ◌≤◌}
use Rattle.sq_term.specs.View.{term_trees}
use Rattle.sq_term.specs.Measure.{depths}
use Rattle.sq_term.proofs.measures.+depth.Given as goal

abbrev pub invariant-depths-loop-term : goal.invariant-depths-loop-term
invariant-depths-loop-term l =
    (min (max l.most (depths (term_trees (drop l.term-index l.terms)))) 18446744073709551615
    ≡ min (depths (term_trees l.terms)) 18446744073709551615)
    × (l.most ≤ 18446744073709551615)
