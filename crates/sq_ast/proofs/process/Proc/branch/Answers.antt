use Rattle.std.proofs.Common.{Some}
use Rattle.sq_ast.proofs.ProcessViews.{tree-If}
use Rattle.sq_ast.proofs.process.Proc.branch.Goals as goal

pub returns-in-Some : goal.returns-in-Some
returns-in-Some c = rw c.in-Some.is (tree-If _ _ (Some c.in-Some.no))
