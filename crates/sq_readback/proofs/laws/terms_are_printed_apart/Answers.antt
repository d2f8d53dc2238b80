use Rattle.sq_readback.proofs.Returns.{apart}
use Rattle.sq_readback.proofs.laws.terms_are_printed_apart.Goals as goal

pub returns : goal.returns
returns c = apart
