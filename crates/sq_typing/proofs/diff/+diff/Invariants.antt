use Rattle.std.proofs.Common.{◌≡◌, drop}
use Rattle.std.specs.Prelude.{◌||◌}
use Rattle.sq_term.specs.View.{term_trees}
use Rattle.sq_typing.specs.Diffs.{hold_diff}
use Rattle.sq_typing.proofs.diff.+diff.Given as goal

abbrev pub invariant-hold_diff-loop-term : goal.invariant-hold_diff-loop-term
invariant-hold_diff-loop-term l = (l.found || hold_diff (term_trees (drop l.term-index l.terms)))
    ≡ hold_diff (term_trees l.terms)
