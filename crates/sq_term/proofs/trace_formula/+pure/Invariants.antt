use Rattle.std.proofs.Common.{◌≡◌, drop}
use Rattle.sq_term.specs.View.{term_trees}
use Rattle.sq_term.specs.Pure.{are_pure}
use Rattle.sq_term.proofs.trace_formula.+pure.Given as goal

abbrev pub invariant-are_pure-loop-term : goal.invariant-are_pure-loop-term
invariant-are_pure-loop-term l =
    are_pure (term_trees (drop l.term-index l.terms)) ≡ are_pure (term_trees l.terms)
