use Rattle.sq_print.proofs.FreeNames.{first_is_free}
use Rattle.sq_print.proofs.laws.a_binder_has_the_first_free_name.Goals as goal

pub returns : goal.returns
returns c = first_is_free
