use Rattle.sq_ground.proofs.RecordSorts.{translations_keep}
use Rattle.sq_ground.proofs.laws.translations_keep_sorts.Goals as goal

pub returns : goal.returns
returns c = translations_keep
