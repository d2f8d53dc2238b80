use Rattle.sq_elab.proofs.WayLaws.{inputs_of_the_first}
use Rattle.sq_elab.proofs.laws.an_input_is_that_of_the_first_action_behind_it.Goals as goal

pub returns : goal.returns
returns c = inputs_of_the_first
