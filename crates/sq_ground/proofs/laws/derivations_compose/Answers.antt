use Rattle.sq_ground.proofs.Derivations.{derive_from}
use Rattle.sq_ground.proofs.laws.derivations_compose.Goals as goal

pub returns : goal.returns
returns c = λ th lines l h f. derive_from th lines l h f
