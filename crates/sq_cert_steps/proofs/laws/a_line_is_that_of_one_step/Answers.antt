use Rattle.sq_cert_steps.proofs.Inverse.{line-same}
use Rattle.sq_cert_steps.proofs.laws.a_line_is_that_of_one_step.Goals as goal

pub returns : goal.returns
returns c = line-same
