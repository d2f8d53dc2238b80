use Rattle.sq_ground.proofs.Derivations.{derive_axiom}
use Rattle.sq_ground.proofs.laws.instances_are_derivable.Goals as goal

pub returns : goal.returns
returns c = λ th l i. derive_axiom th l i
