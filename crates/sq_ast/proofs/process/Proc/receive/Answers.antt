use Rattle.std.proofs.Common.{Some}
use Rattle.sq_ast.proofs.ProcessViews.{tree-In}
use Rattle.sq_ast.proofs.process.Proc.receive.Goals as goal

pub returns-in-Some : goal.returns-in-Some
returns-in-Some c = rw c.in-Some.is (tree-In _ _ (Some c.in-Some.next))
