use Rattle.sq_ground.proofs.Propositional.{by_truth}
use Rattle.sq_ground.proofs.laws.truth_tables_derive.Goals as goal

pub returns : goal.returns
returns c = λ th left cited d h e. by_truth th left cited d h e
