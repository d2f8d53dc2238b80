-- What tree a formula is.
use Rattle.std.specs.Prelude.{List, [], ◌∷◌, map, Some, None}
use Rattle.sq_ast.specs.declared.formula.Formula.{Formula}
use Rattle.sq_ast.specs.declared.formula.Formula.TheOpen.{Formula-F}
use Rattle.sq_ast.specs.declared.formula.Formula.TheFolds.{fold-Formula}
use Rattle.sq_ast.specs.declared.formula.Quantifier.TheVariants.{Forall, Exists}
use Rattle.sq_ast.specs.declared.formula.Binary.TheVariants.{Implies, Or, And, Equal, NotEqual}
use Rattle.sq_ast.specs.declared.formula.Binary.TheVariants.{LessEqual, Less}
use Rattle.sq_ast.specs.declared.formula.Constant.TheVariants.{True, False, Empty, Init}
use Rattle.sq_ast.specs.declared.formula.Unary.TheVariants.{Not, Fst, Snd, OfBool, Happens, Pred}
use Rattle.sq_ast.specs.declared.formula.MacroWord.TheVariants.{Input, Output, Cond, Exec, Frame}
use Rattle.sq_ast.specs.Tree.{FormulaTree, quantified, binary, group, pair, constant, conditional}
use Rattle.sq_ast.specs.Tree.{find, diff, unary, value, name, apply, FormulaTrees, none, more}

abbrev pub trees : List FormulaTree → FormulaTrees
trees [] = none
trees (t ∷ ts) = more t (trees ts)

-- one node, with the trees of its parts
abbrev pub node : Formula-F FormulaTree → FormulaTree
node (Formula-F.Forall bs a) = quantified Forall bs a
node (Formula-F.Exists bs a) = quantified Exists bs a
node (Formula-F.Implies a b) = binary Implies a b
node (Formula-F.Or a b) = binary Or a b
node (Formula-F.And a b) = binary And a b
node (Formula-F.Equal a b) = binary Equal a b
node (Formula-F.NotEqual a b) = binary NotEqual a b
node (Formula-F.LessEqual a b) = binary LessEqual a b
node (Formula-F.Less a b) = binary Less a b
node (Formula-F.Group a) = group a
node (Formula-F.Pair a b) = pair a b
node Formula-F.True = constant True
node Formula-F.False = constant False
node Formula-F.Empty = constant Empty
node Formula-F.Init = constant Init
node (Formula-F.If a b c) = conditional a b c
node (Formula-F.Find ns a b c) = find ns a b c
node (Formula-F.Diff a b) = diff a b
node (Formula-F.Not a) = unary Not a
node (Formula-F.Fst a) = unary Fst a
node (Formula-F.Snd a) = unary Snd a
node (Formula-F.OfBool a) = unary OfBool a
node (Formula-F.Happens a) = unary Happens a
node (Formula-F.Pred a) = unary Pred a
node (Formula-F.Input a) = value Input a
node (Formula-F.Output a) = value Output a
node (Formula-F.Cond a) = value Cond a
node (Formula-F.Exec a) = value Exec a
node (Formula-F.Frame a) = value Frame a
node (Formula-F.Apply n None) = name n
node (Formula-F.Apply n (Some xs)) = apply n (trees xs)

abbrev pub formula_tree : Formula → FormulaTree
formula_tree = fold-Formula FormulaTree node

abbrev pub formula_trees : List Formula → FormulaTrees
formula_trees fs = trees (map formula_tree fs)
