use Rattle.sq_occ.proofs.ClosedLists.{messages_listed}
use Rattle.sq_occ.proofs.laws.messages_are_listed.Goals as goal

pub returns : goal.returns
returns c = messages_listed
