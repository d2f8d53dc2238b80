use Rattle.sq_rules_trace.proofs.FactsMayStand.{facts_may_stand}
use Rattle.sq_rules_trace.proofs.laws.time_facts_may_stand.Goals as goal

pub returns : goal.returns
returns c = facts_may_stand
