use Rattle.sq_ground.proofs.Traces.{every_system}
use Rattle.sq_ground.proofs.laws.every_system_has_a_model.Goals as goal

pub returns : goal.returns
returns c = every_system
