use Rattle.std.proofs.Common.{◌≡◌, ◌+◌, max, drop}
use Rattle.sq_term.specs.View.{term_trees}
use Rattle.sq_term.specs.Measure.{sizes, depths}
use Rattle.sq_subst.proofs.room.+room.Given as goal

abbrev pub invariant-terms_room-loop-term : goal.invariant-terms_room-loop-term
invariant-terms_room-loop-term l =
    (l.left + sizes (term_trees l.terms) ≡ l.nodes + sizes (term_trees (drop l.term-index l.terms)))
    × (max l.levels (depths (term_trees (drop l.term-index l.terms)))
    ≡ max l.levels (depths (term_trees l.terms)))
