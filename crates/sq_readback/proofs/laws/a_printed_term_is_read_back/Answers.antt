use Rattle.sq_readback.proofs.Returns.{read_back}
use Rattle.sq_readback.proofs.laws.a_printed_term_is_read_back.Goals as goal

pub returns : goal.returns
returns c = read_back
