use Rattle.sq_elab.proofs.ChoiceLaws.{parts_do_not_exclude}
use Rattle.sq_elab.proofs.laws.parts_of_a_parallel_do_not_exclude_each_other.Goals as goal

pub returns : goal.returns
returns c = parts_do_not_exclude
