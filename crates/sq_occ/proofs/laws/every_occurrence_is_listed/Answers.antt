use Rattle.sq_occ.proofs.Theorem.{every_occurrence}
use Rattle.sq_occ.proofs.laws.every_occurrence_is_listed.Goals as goal

pub returns : goal.returns
returns c = every_occurrence
