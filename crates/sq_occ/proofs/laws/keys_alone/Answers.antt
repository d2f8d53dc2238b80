use Rattle.sq_occ.proofs.MetEntries.{keys_alone}
use Rattle.sq_occ.proofs.laws.keys_alone.Goals as goal

pub returns : goal.returns
returns c = keys_alone
