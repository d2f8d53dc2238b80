use Rattle.std.proofs.Common.{◌+◌, ◌*◌, ◌↔◌, ◌≤◌, drop}
use Rattle.sq_ast.specs.Deep.{heights}
use Rattle.sq_ast.specs.View.{formula_trees}
use Rattle.sq_parse_term.proofs.depth.+fits.Given as goal

abbrev pub decreases-fits : goal.decreases-fits
decreases-fits l = 2 * l.room + 1

abbrev pub decreases-one_fits : goal.decreases-one_fits
decreases-one_fits l = 2 * l.room

abbrev pub decreases-two_fit : goal.decreases-two_fit
decreases-two_fit l = 2 * l.room

abbrev pub decreases-three_fit : goal.decreases-three_fit
decreases-three_fit l = 2 * l.room

abbrev pub decreases-all_fit : goal.decreases-all_fit
decreases-all_fit l = 2 * l.room + 2

abbrev pub invariant-all_fit-loop-formula : goal.invariant-all_fit-loop-formula
invariant-all_fit-loop-formula l =
    (heights (formula_trees (drop l.formula-index l.formulas)) ≤ l.room)
    ↔ (heights (formula_trees l.formulas) ≤ l.room)
