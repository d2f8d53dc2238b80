use Rattle.sq_readback.proofs.Example.{scope, term, readable, few, within}
use Rattle.sq_readback.proofs.laws.the_conditions_can_be_met.Goals as goal

pub returns : goal.returns
returns c = (scope, (term, (readable, few, within)))
