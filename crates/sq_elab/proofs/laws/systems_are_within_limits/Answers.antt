use Rattle.sq_elab.proofs.LimitLaws.{within_limits_law}
use Rattle.sq_elab.proofs.laws.systems_are_within_limits.Goals as goal

pub returns : goal.returns
returns c = within_limits_law
