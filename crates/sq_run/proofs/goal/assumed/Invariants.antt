use Rattle.std.proofs.Common.{◌≡◌, drop, map}
use Rattle.std.specs.List.{position_from}
use Rattle.sq_term.specs.View.{term_tree}
use Rattle.sq_term.specs.TreeEquality.{is_same_tree}
use Rattle.sq_run.proofs.goal.assumed.Given as goal

abbrev pub invariant-loop-at : goal.invariant-loop-at
invariant-loop-at l =
    position_from (is_same_tree (term_tree l.goal)) l.at (map term_tree (drop l.at l.hyps))
    ≡ position_from (is_same_tree (term_tree l.goal)) 0 (map term_tree l.hyps)
