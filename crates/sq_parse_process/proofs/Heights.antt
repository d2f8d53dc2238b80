-- A process has a node.
use Rattle.std.proofs.Common.{◌≤◌, arith}
use Rattle.sq_ast.specs.ProcTree.{ProcTree, null, new, receive, receive_then, send, send_then}
use Rattle.sq_ast.specs.ProcTree.{branch, branch_else, find, find_else, define, replicate, label}
use Rattle.sq_ast.specs.ProcTree.{call, call_with, parallel}
use Rattle.sq_ast.specs.ProcGrammar.{process_height}

pub positive : (t : ProcTree) → 1 ≤ process_height t
positive null = omega arith
positive (new n a) = omega arith
positive (receive c x) = omega arith
positive (receive_then c x a) = omega arith
positive (send c f) = omega arith
positive (send_then c f a) = omega arith
positive (branch f a) = omega arith
positive (branch_else f a b) = omega arith
positive (find ns f a) = omega arith
positive (find_else ns f a b) = omega arith
positive (define n f a) = omega arith
positive (replicate n a) = omega arith
positive (label n a) = omega arith
positive (call n) = omega arith
positive (call_with n ns) = omega arith
positive (parallel ps) = omega arith
