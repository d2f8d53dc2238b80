use Rattle.std.proofs.Common.{◌≡◌, take, map}
use Rattle.sq_term.specs.View.{term_tree}
use Rattle.sq_subst.specs.Changes.{leaves}
use Rattle.sq_subst.specs.Leaves.{map_term}
use Rattle.sq_subst.proofs.walk.+walk.Given as goal

abbrev pub invariant-parts-loop-term : goal.invariant-parts-loop-term
invariant-parts-loop-term l =
    map term_tree l.out
    ≡ map (λ t. map_term (leaves l.change) l.binders (term_tree t)) (take l.term-index l.terms)
