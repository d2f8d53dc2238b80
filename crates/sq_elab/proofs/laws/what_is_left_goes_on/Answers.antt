use Rattle.sq_elab.proofs.TaskLaws.{what_is_left_goes_on}
use Rattle.sq_elab.proofs.laws.what_is_left_goes_on.Goals as goal

pub returns : goal.returns
returns c = what_is_left_goes_on
