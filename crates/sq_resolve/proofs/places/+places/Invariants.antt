use Rattle.std.proofs.Common.{◌≡◌, ◌+◌, ◌*◌, ◌-◌, ◌++◌, max, drop, List}
use Rattle.std.specs.Prelude.{Ok}
use Rattle.sq_ast.specs.Deep.{height, heights}
use Rattle.sq_ast.specs.View.{formula_tree, formula_trees}
use Rattle.sq_resolve.specs.Among.{Judges}
use Rattle.sq_resolve.specs.Heads.{context_of}
use Rattle.sq_resolve.specs.Places.{Place, argument_places}
use Rattle.sq_resolve.specs.Shapes.{shape_tree}
use Rattle.sq_resolve.proofs.places.+places.Given as goal

abbrev pub decreases-judge_places : goal.decreases-judge_places
decreases-judge_places l = 4 * height (formula_tree l.f.now) + 1

abbrev pub decreases-judge_parts : goal.decreases-judge_parts
decreases-judge_parts l = 4 * height (shape_tree l.shape)

abbrev pub decreases-judge_two : goal.decreases-judge_two
decreases-judge_two l =
    4 * max (height (formula_tree l.a.now)) (height (formula_tree l.b.now)) + 2

abbrev pub decreases-judge_conditional : goal.decreases-judge_conditional
decreases-judge_conditional l =
    4 * max (height (formula_tree l.a.now))
    (max (height (formula_tree l.b.now)) (height (formula_tree l.c.now))) + 3

abbrev pub decreases-judge_bound : goal.decreases-judge_bound
decreases-judge_bound l = 4 * height (formula_tree l.a.now) + 2

abbrev pub decreases-judge_search : goal.decreases-judge_search
decreases-judge_search l =
    4 * max (height (formula_tree l.a.now))
    (max (height (formula_tree l.b.now)) (height (formula_tree l.c.now))) + 2

abbrev pub decreases-judge_arguments : goal.decreases-judge_arguments
decreases-judge_arguments l = 4 * heights (formula_trees l.args.now) + 2

abbrev pub invariant-judge_arguments-loop-at : goal.invariant-judge_arguments-loop-at
invariant-judge_arguments-loop-at l =
    (l.around ≡ l.initial.around)
    × ((ps : List Place)
    × (Judges (context_of l.r) l.count ps (Ok l.left)
    × (argument_places (context_of l.r) l.initial.around l.indices (formula_trees l.args)
    ≡ ps
    ++ argument_places (context_of l.r) l.initial.around (l.indices - l.at)
    (formula_trees (drop l.at l.args)))))
