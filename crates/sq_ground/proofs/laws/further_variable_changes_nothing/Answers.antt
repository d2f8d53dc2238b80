use Rattle.sq_term.proofs.Within.{unchanged}
use Rattle.sq_ground.proofs.laws.further_variable_changes_nothing.Goals as goal

pub returns : goal.returns
returns c = λ w a x bs t h. unchanged w a x t bs h
