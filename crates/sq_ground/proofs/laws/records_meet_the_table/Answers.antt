use Rattle.sq_ground.proofs.Traces.{records_meet}
use Rattle.sq_ground.proofs.laws.records_meet_the_table.Goals as goal

pub returns : goal.returns
returns c = records_meet
