use Rattle.sq_rules_trace.proofs.FactsTrue.{facts_true}
use Rattle.sq_rules_trace.proofs.laws.time_facts_are_true.Goals as goal

pub returns : goal.returns
returns c = facts_true
