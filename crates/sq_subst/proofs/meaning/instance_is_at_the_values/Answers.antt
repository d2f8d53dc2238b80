use Rattle.sq_subst.proofs.Laws.{instance_law}
use Rattle.sq_subst.proofs.meaning.instance_is_at_the_values.Goals as goal

pub returns : goal.returns
returns c = λ w a vars schemas t e h p. instance_law w a vars e schemas t h p
