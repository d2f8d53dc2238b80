use Rattle.sq_elab.proofs.FactLaws.{keep_their_facts}
use Rattle.sq_elab.proofs.laws.systems_keep_their_facts.Goals as goal

pub returns : goal.returns
returns c = keep_their_facts
