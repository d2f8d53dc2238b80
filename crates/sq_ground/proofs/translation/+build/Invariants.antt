use Rattle.std.proofs.Common.{drop, map}
use Rattle.sq_term.specs.View.{term_tree, term_trees}
use Rattle.sq_term.specs.Translate.{translate, translate_all}
use Rattle.sq_ground.specs.Calls.Readings.{seen, given}
use Rattle.sq_ground.proofs.Grounds.{RowSoFar}
use Rattle.sq_ground.proofs.Joins.{PartsSoFar}
use Rattle.sq_ground.proofs.translation.+build.Given as goal

abbrev pub invariant-build_all-loop-t : goal.invariant-build_all-loop-t
invariant-build_all-loop-t l =
    RowSoFar l.out l.nodes l.deepest l.room
    (translate_all (seen l.w) (given l.w) l.bs (term_trees (drop l.t-index l.terms)))
    (translate_all (seen l.w) (given l.w) l.bs (term_trees l.terms))

abbrev pub invariant-build_each-loop-bs : goal.invariant-build_each-loop-bs
invariant-build_each-loop-bs l =
    PartsSoFar l.parts l.nodes l.room
    (map (λ bs. translate (seen l.w) (given l.w) bs (term_tree l.body))
    (drop l.bs-index l.lists))
    (map (λ bs. translate (seen l.w) (given l.w) bs (term_tree l.body)) l.lists)
