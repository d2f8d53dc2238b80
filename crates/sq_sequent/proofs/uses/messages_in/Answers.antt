use Rattle.sq_sequent.proofs.Messages.{messages-all}
use Rattle.sq_sequent.proofs.uses.messages_in.Goals as goal

pub returns : goal.returns
returns c = messages-all _ _ _ _ _ c.loop-arg-test.false c.loop-arg.invariant
