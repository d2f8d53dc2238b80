-- The tree of an outermost form with its parts.
use Rattle.sq_ast.specs.Tree.{FormulaTree, quantified, binary, group, pair, constant, conditional}
use Rattle.sq_ast.specs.Tree.{find, diff, unary, value, name, apply}
use Rattle.sq_ast.specs.View.{formula_tree, formula_trees}
use Rattle.sq_resolve.specs.declared.shape.Shape.{Shape}
use Rattle.sq_resolve.specs.declared.shape.Shape.TheVariants as s

abbrev pub shape_tree : Shape → FormulaTree
shape_tree (s.Quantified q gs a) = quantified q gs.now (formula_tree a.now)
shape_tree (s.Binary o a b) = binary o (formula_tree a.now) (formula_tree b.now)
shape_tree (s.Group a) = group (formula_tree a.now)
shape_tree (s.Pair a b) = pair (formula_tree a.now) (formula_tree b.now)
shape_tree (s.Constant k) = constant k
shape_tree (s.Conditional a b d) =
    conditional (formula_tree a.now) (formula_tree b.now) (formula_tree d.now)
shape_tree (s.Find ns a b d) =
    find ns.now (formula_tree a.now) (formula_tree b.now) (formula_tree d.now)
shape_tree (s.Diff a b) = diff (formula_tree a.now) (formula_tree b.now)
shape_tree (s.Unary u a) = unary u (formula_tree a.now)
shape_tree (s.Value w a) = value w (formula_tree a.now)
shape_tree (s.Name x) = name x.now
shape_tree (s.Apply x xs) = apply x.now (formula_trees xs.now)
