use Rattle.sq_ground.proofs.Usable.{still_derived}
use Rattle.sq_ground.proofs.laws.more_axioms_derive_no_less.Goals as goal

pub returns : goal.returns
returns c = λ th axioms sub l h. still_derived th axioms sub l h
