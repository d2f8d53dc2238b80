use Rattle.sq_readback.proofs.Returns.{calls_give}
use Rattle.sq_readback.proofs.laws.reading_undoes_printing.Goals as goal

pub returns : goal.returns
returns c = calls_give
