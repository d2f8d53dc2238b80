use Rattle.std.proofs.Common.{◌≡◌, max, drop}
use Rattle.sq_term.specs.View.{term_trees}
use Rattle.sq_term.specs.Closed.{all_loose}
use Rattle.sq_term.proofs.binders.+loose.Given as goal

abbrev pub invariant-all_loose-loop-term : goal.invariant-all_loose-loop-term
invariant-all_loose-loop-term l =
    max l.most (all_loose (term_trees (drop l.term-index l.terms))) ≡ all_loose (term_trees l.terms)
