use Rattle.std.proofs.Common.{[]}
use Rattle.sq_subst.proofs.Laws.{project_law}
use Rattle.sq_subst.proofs.meaning.projecting_keeps_the_side.Goals as goal

pub returns : goal.returns
returns c = λ w a side t e. project_law w a [] side t e
