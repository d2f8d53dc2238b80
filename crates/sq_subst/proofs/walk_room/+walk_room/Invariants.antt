use Rattle.std.proofs.Common.{◌≡◌, ◌+◌, max, drop}
use Rattle.sq_term.specs.View.{term_trees}
use Rattle.sq_term.specs.Measure.{sizes, depths}
use Rattle.sq_subst.specs.Changes.{leaves}
use Rattle.sq_subst.specs.Leaves.{map_terms}
use Rattle.sq_subst.proofs.walk_room.+walk_room.Given as goal

abbrev pub invariant-parts_room-loop-term : goal.invariant-parts_room-loop-term
invariant-parts_room-loop-term l =
    (l.rest + sizes (map_terms (leaves l.change) l.binders (term_trees l.terms))
    ≡ l.nodes + sizes (map_terms (leaves l.change) l.binders
    (term_trees (drop l.term-index l.terms))))
    × (max l.levels (depths (map_terms (leaves l.change) l.binders
    (term_trees (drop l.term-index l.terms))))
    ≡ max l.levels (depths (map_terms (leaves l.change) l.binders (term_trees l.terms))))
