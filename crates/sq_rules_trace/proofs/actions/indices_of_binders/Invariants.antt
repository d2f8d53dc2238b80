use Rattle.std.proofs.Common.{◌≡◌, ◌++◌}
use Rattle.sq_rules_trace.specs.ActionFacts.{indices_of_binders}
use Rattle.sq_rules_trace.proofs.actions.indices_of_binders.Given as goal

abbrev pub invariant-binders : goal.invariant-binders
invariant-binders l = l.out ++ indices_of_binders l.left ≡ indices_of_binders l.fn.count

abbrev pub decreases-binders : goal.decreases-binders
decreases-binders l = l.left
