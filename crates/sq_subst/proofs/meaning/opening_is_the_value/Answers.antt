use Rattle.sq_subst.proofs.Laws.{open_law}
use Rattle.sq_subst.proofs.meaning.opening_is_the_value.Goals as goal

pub returns : goal.returns
returns c = λ w a arg body e. open_law w a arg body e
