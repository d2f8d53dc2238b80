use Rattle.sq_sequent.proofs.RewriteShapes.{messages-there}
use Rattle.sq_sequent.proofs.rewriting.by_equation.Goals as goal

pub returns-in-Equal : goal.returns-in-Equal
returns-in-Equal c = messages-there _ _ _ c.in-Equal.ensures
