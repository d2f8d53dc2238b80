use Rattle.sq_elab.proofs.NameLaws.{names-stay-apart}
use Rattle.sq_elab.proofs.laws.names_stay_apart.Goals as goal

pub returns : goal.returns
returns c = names-stay-apart
