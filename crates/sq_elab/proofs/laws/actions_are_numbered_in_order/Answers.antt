use Rattle.sq_elab.proofs.NodeLaws.{numbered_in_order}
use Rattle.sq_elab.proofs.laws.actions_are_numbered_in_order.Goals as goal

pub returns : goal.returns
returns c = numbered_in_order
