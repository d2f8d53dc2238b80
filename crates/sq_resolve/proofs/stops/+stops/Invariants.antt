use Rattle.std.proofs.Common.{◌≡◌, ◌+◌, ◌*◌, max, drop}
use Rattle.sq_ast.specs.Deep.{height, heights}
use Rattle.sq_ast.specs.View.{formula_tree, formula_trees}
use Rattle.sq_resolve.specs.Stops.{all_nodes, passed}
use Rattle.sq_resolve.proofs.stops.+stops.Given as goal

abbrev pub decreases-stop : goal.decreases-stop
decreases-stop l = 4 * height (formula_tree l.f.now) + 1

abbrev pub decreases-stop_in_two : goal.decreases-stop_in_two
decreases-stop_in_two l =
    4 * max (height (formula_tree l.a.now)) (height (formula_tree l.b.now)) + 2

abbrev pub decreases-stop_in_three : goal.decreases-stop_in_three
decreases-stop_in_three l =
    4 * max (height (formula_tree l.a.now))
    (max (height (formula_tree l.b.now)) (height (formula_tree l.c.now))) + 3

abbrev pub decreases-stop_among : goal.decreases-stop_among
decreases-stop_among l = 4 * heights (formula_trees l.args.now) + 2

abbrev pub invariant-stop_among-loop-arg : goal.invariant-stop_among-loop-arg
invariant-stop_among-loop-arg l =
    passed l.before (all_nodes l.depth (formula_trees l.args))
    ≡ passed l.count (all_nodes l.depth (formula_trees (drop l.arg-index l.args)))
