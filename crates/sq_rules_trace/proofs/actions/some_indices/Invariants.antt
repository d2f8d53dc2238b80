use Rattle.std.proofs.Common.{◌≡◌}
use Rattle.sq_term.specs.View.{term_tree}
use Rattle.sq_formula.specs.Facts.{some_indices}
use Rattle.sq_rules_trace.proofs.actions.some_indices.Given as goal

abbrev pub invariant-loop : goal.invariant-loop
invariant-loop l = term_tree l.whole ≡ some_indices l.counter (term_tree l.fn.body)
