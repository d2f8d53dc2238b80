use Rattle.std.proofs.Common.{Some}
use Rattle.sq_ast.proofs.ProcessViews.{tree-Find}
use Rattle.sq_ast.proofs.process.Proc.find.Goals as goal

pub returns-in-Some : goal.returns-in-Some
returns-in-Some c = rw c.in-Some.is (tree-Find _ _ _ (Some c.in-Some.no))
