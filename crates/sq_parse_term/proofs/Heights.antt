-- A tree has a node.
use Rattle.std.proofs.Common.{◌≤◌, arith}
use Rattle.sq_ast.specs.Tree.{FormulaTree, quantified, binary, group, pair, constant, conditional}
use Rattle.sq_ast.specs.Tree.{find, diff, unary, value, name, apply}
use Rattle.sq_ast.specs.Deep.{height}

pub positive : (t : FormulaTree) → 1 ≤ height t
positive (quantified q gs a) = omega arith
positive (binary o a b) = omega arith
positive (group a) = omega arith
positive (pair a b) = omega arith
positive (constant c) = omega arith
positive (conditional a b c) = omega arith
positive (find ns a b c) = omega arith
positive (diff a b) = omega arith
positive (unary u a) = omega arith
positive (value m a) = omega arith
positive (name n) = omega arith
positive (apply n xs) = omega arith
