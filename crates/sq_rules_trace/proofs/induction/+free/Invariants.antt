use Rattle.std.proofs.Common.{◌≡◌, ◌&&◌, drop}
use Rattle.sq_term.specs.View.{term_trees}
use Rattle.sq_rules_trace.specs.Induction.{are_free_of}
use Rattle.sq_rules_trace.proofs.induction.+free.Given as goal

abbrev pub invariant-are_free_of-loop-term : goal.invariant-are_free_of-loop-term
invariant-are_free_of-loop-term l =
    (l.free && are_free_of l.v (term_trees (drop l.term-index l.terms)))
    ≡ are_free_of l.v (term_trees l.terms)
