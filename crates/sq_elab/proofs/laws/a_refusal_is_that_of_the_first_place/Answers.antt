use Rattle.sq_elab.proofs.FaultLaws.{the_first_place_counts}
use Rattle.sq_elab.proofs.laws.a_refusal_is_that_of_the_first_place.Goals as goal

pub returns : goal.returns
returns c = the_first_place_counts
