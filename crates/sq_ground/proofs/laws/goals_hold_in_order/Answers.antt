use Rattle.sq_ground.proofs.Usable.{goals_hold}
use Rattle.sq_ground.proofs.laws.goals_hold_in_order.Goals as goal

pub returns : goal.returns
returns c = λ env starts next g claimed. goals_hold env starts next g claimed
