use Rattle.sq_ground.proofs.Usable.{usable_holds}
use Rattle.sq_ground.proofs.laws.earlier_goals_still_hold.Goals as goal

pub returns : goal.returns
returns c = λ env g k m u claimed n h. usable_holds env g k m u claimed n h
