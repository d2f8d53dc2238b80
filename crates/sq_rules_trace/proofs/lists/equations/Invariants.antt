use Rattle.std.proofs.Common.{◌≡◌, ◌++◌, map, length}
use Rattle.sq_term.specs.View.{term_tree}
use Rattle.sq_occ.specs.Facts.{equations}
use Rattle.sq_rules_trace.proofs.lists.equations.Given as goal

abbrev pub invariant-equations : goal.invariant-equations
invariant-equations l =
    map term_tree l.out ++ equations l.left l.right ≡ equations l.is l.js

abbrev pub decreases-equations : goal.decreases-equations
decreases-equations l = length l.left
