use Rattle.sq_rules_trace.proofs.Formed.{keep_formed}
use Rattle.sq_rules_trace.proofs.laws.time_rows_keep_well_formed.Goals as goal

pub returns : goal.returns
returns c = keep_formed
