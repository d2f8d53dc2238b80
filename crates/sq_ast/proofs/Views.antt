-- What tree each variant of a formula is.
use Rattle.std.proofs.Common.{◌≡◌, ℕ, List, Some, None, sym, ap, ◌∙◌}
use Rattle.sq_ast.specs.declared.formula.Formula.{Formula}
use Rattle.sq_ast.specs.declared.formula.Formula.TheVariants as f
use Rattle.sq_ast.specs.declared.formula.Formula.TheOpen.{Formula-F}
use Rattle.sq_ast.specs.declared.formula.Formula.TheFolds.{fold-roll-Formula}
use Rattle.sq_ast.specs.declared.formula.Quantifier.TheVariants.{Forall, Exists}
use Rattle.sq_ast.specs.declared.formula.Binary.TheVariants.{Implies, Or, And, Equal, NotEqual}
use Rattle.sq_ast.specs.declared.formula.Binary.TheVariants.{LessEqual, Less}
use Rattle.sq_ast.specs.declared.formula.Constant.TheVariants.{True, False, Empty, Init}
use Rattle.sq_ast.specs.declared.formula.Unary.TheVariants.{Not, Fst, Snd, OfBool, Happens, Pred}
use Rattle.sq_ast.specs.declared.formula.MacroWord.TheVariants.{Input, Output, Cond, Exec, Frame}
use Rattle.sq_ast.specs.Tree.{Group, FormulaTree, quantified, binary, group, pair, constant}
use Rattle.sq_ast.specs.Tree.{conditional, find, diff, unary, value, name, apply}
use Rattle.sq_ast.specs.View.{node, formula_tree, formula_trees}

pub tree-Forall : (gs : List Group) (a : Formula)
    → formula_tree (f.Forall gs a) ≡ quantified Forall gs (formula_tree a)
tree-Forall gs a = ap formula_tree (sym (f.rolls-Forall gs a)) ∙ fold-roll-Formula FormulaTree node
    (Formula-F.Forall gs a)

pub tree-Exists : (gs : List Group) (a : Formula)
    → formula_tree (f.Exists gs a) ≡ quantified Exists gs (formula_tree a)
tree-Exists gs a = ap formula_tree (sym (f.rolls-Exists gs a)) ∙ fold-roll-Formula FormulaTree node
    (Formula-F.Exists gs a)

pub tree-Implies : (a : Formula) (b : Formula)
    → formula_tree (f.Implies a b) ≡ binary Implies (formula_tree a) (formula_tree b)
tree-Implies a b = ap formula_tree (sym (f.rolls-Implies a b)) ∙ fold-roll-Formula FormulaTree node
    (Formula-F.Implies a b)

pub tree-Or : (a : Formula) (b : Formula)
    → formula_tree (f.Or a b) ≡ binary Or (formula_tree a) (formula_tree b)
tree-Or a b = ap formula_tree (sym (f.rolls-Or a b)) ∙ fold-roll-Formula FormulaTree node
    (Formula-F.Or a b)

pub tree-And : (a : Formula) (b : Formula)
    → formula_tree (f.And a b) ≡ binary And (formula_tree a) (formula_tree b)
tree-And a b = ap formula_tree (sym (f.rolls-And a b)) ∙ fold-roll-Formula FormulaTree node
    (Formula-F.And a b)

pub tree-Equal : (a : Formula) (b : Formula)
    → formula_tree (f.Equal a b) ≡ binary Equal (formula_tree a) (formula_tree b)
tree-Equal a b = ap formula_tree (sym (f.rolls-Equal a b)) ∙ fold-roll-Formula FormulaTree node
    (Formula-F.Equal a b)

pub tree-NotEqual : (a : Formula) (b : Formula)
    → formula_tree (f.NotEqual a b) ≡ binary NotEqual (formula_tree a) (formula_tree b)
tree-NotEqual a b = ap formula_tree
    (sym (f.rolls-NotEqual a b)) ∙ fold-roll-Formula FormulaTree node (Formula-F.NotEqual a b)

pub tree-LessEqual : (a : Formula) (b : Formula)
    → formula_tree (f.LessEqual a b) ≡ binary LessEqual (formula_tree a) (formula_tree b)
tree-LessEqual a b = ap formula_tree
    (sym (f.rolls-LessEqual a b)) ∙ fold-roll-Formula FormulaTree node (Formula-F.LessEqual a b)

pub tree-Less : (a : Formula) (b : Formula)
    → formula_tree (f.Less a b) ≡ binary Less (formula_tree a) (formula_tree b)
tree-Less a b = ap formula_tree (sym (f.rolls-Less a b)) ∙ fold-roll-Formula FormulaTree node
    (Formula-F.Less a b)

pub tree-Group : (a : Formula) → formula_tree (f.Group a) ≡ group (formula_tree a)
tree-Group a = ap formula_tree (sym (f.rolls-Group a)) ∙ fold-roll-Formula FormulaTree node
    (Formula-F.Group a)

pub tree-Pair : (a : Formula) (b : Formula)
    → formula_tree (f.Pair a b) ≡ pair (formula_tree a) (formula_tree b)
tree-Pair a b = ap formula_tree (sym (f.rolls-Pair a b)) ∙ fold-roll-Formula FormulaTree node
    (Formula-F.Pair a b)

pub tree-True : formula_tree f.True ≡ constant True
tree-True = ap formula_tree (sym f.rolls-True) ∙ fold-roll-Formula FormulaTree node Formula-F.True

pub tree-False : formula_tree f.False ≡ constant False
tree-False = ap formula_tree (sym f.rolls-False) ∙ fold-roll-Formula FormulaTree node
    Formula-F.False

pub tree-Empty : formula_tree f.Empty ≡ constant Empty
tree-Empty = ap formula_tree (sym f.rolls-Empty) ∙ fold-roll-Formula FormulaTree node
    Formula-F.Empty

pub tree-Init : formula_tree f.Init ≡ constant Init
tree-Init = ap formula_tree (sym f.rolls-Init) ∙ fold-roll-Formula FormulaTree node Formula-F.Init

pub tree-If : (a : Formula) (b : Formula) (c : Formula)
    → formula_tree (f.If a b c) ≡ conditional (formula_tree a) (formula_tree b) (formula_tree c)
tree-If a b c = ap formula_tree (sym (f.rolls-If a b c)) ∙ fold-roll-Formula FormulaTree node
    (Formula-F.If a b c)

pub tree-Find : (ns : List (List ℕ)) (a : Formula) (b : Formula) (c : Formula)
    → formula_tree (f.Find ns a b c) ≡ find ns (formula_tree a) (formula_tree b) (formula_tree c)
tree-Find ns a b c = ap formula_tree
    (sym (f.rolls-Find ns a b c)) ∙ fold-roll-Formula FormulaTree node (Formula-F.Find ns a b c)

pub tree-Diff : (a : Formula) (b : Formula)
    → formula_tree (f.Diff a b) ≡ diff (formula_tree a) (formula_tree b)
tree-Diff a b = ap formula_tree (sym (f.rolls-Diff a b)) ∙ fold-roll-Formula FormulaTree node
    (Formula-F.Diff a b)

pub tree-Not : (a : Formula) → formula_tree (f.Not a) ≡ unary Not (formula_tree a)
tree-Not a = ap formula_tree (sym (f.rolls-Not a)) ∙ fold-roll-Formula FormulaTree node
    (Formula-F.Not a)

pub tree-Fst : (a : Formula) → formula_tree (f.Fst a) ≡ unary Fst (formula_tree a)
tree-Fst a = ap formula_tree (sym (f.rolls-Fst a)) ∙ fold-roll-Formula FormulaTree node
    (Formula-F.Fst a)

pub tree-Snd : (a : Formula) → formula_tree (f.Snd a) ≡ unary Snd (formula_tree a)
tree-Snd a = ap formula_tree (sym (f.rolls-Snd a)) ∙ fold-roll-Formula FormulaTree node
    (Formula-F.Snd a)

pub tree-OfBool : (a : Formula) → formula_tree (f.OfBool a) ≡ unary OfBool (formula_tree a)
tree-OfBool a = ap formula_tree (sym (f.rolls-OfBool a)) ∙ fold-roll-Formula FormulaTree node
    (Formula-F.OfBool a)

pub tree-Happens : (a : Formula) → formula_tree (f.Happens a) ≡ unary Happens (formula_tree a)
tree-Happens a = ap formula_tree (sym (f.rolls-Happens a)) ∙ fold-roll-Formula FormulaTree node
    (Formula-F.Happens a)

pub tree-Pred : (a : Formula) → formula_tree (f.Pred a) ≡ unary Pred (formula_tree a)
tree-Pred a = ap formula_tree (sym (f.rolls-Pred a)) ∙ fold-roll-Formula FormulaTree node
    (Formula-F.Pred a)

pub tree-Input : (a : Formula) → formula_tree (f.Input a) ≡ value Input (formula_tree a)
tree-Input a = ap formula_tree (sym (f.rolls-Input a)) ∙ fold-roll-Formula FormulaTree node
    (Formula-F.Input a)

pub tree-Output : (a : Formula) → formula_tree (f.Output a) ≡ value Output (formula_tree a)
tree-Output a = ap formula_tree (sym (f.rolls-Output a)) ∙ fold-roll-Formula FormulaTree node
    (Formula-F.Output a)

pub tree-Cond : (a : Formula) → formula_tree (f.Cond a) ≡ value Cond (formula_tree a)
tree-Cond a = ap formula_tree (sym (f.rolls-Cond a)) ∙ fold-roll-Formula FormulaTree node
    (Formula-F.Cond a)

pub tree-Exec : (a : Formula) → formula_tree (f.Exec a) ≡ value Exec (formula_tree a)
tree-Exec a = ap formula_tree (sym (f.rolls-Exec a)) ∙ fold-roll-Formula FormulaTree node
    (Formula-F.Exec a)

pub tree-Frame : (a : Formula) → formula_tree (f.Frame a) ≡ value Frame (formula_tree a)
tree-Frame a = ap formula_tree (sym (f.rolls-Frame a)) ∙ fold-roll-Formula FormulaTree node
    (Formula-F.Frame a)

pub tree-Apply : (n : List ℕ) → formula_tree (f.Apply n None) ≡ name n
tree-Apply n = ap formula_tree (sym (f.rolls-Apply n None)) ∙ fold-roll-Formula FormulaTree node
    (Formula-F.Apply n None)

pub tree-Apply_to : (n : List ℕ) (xs : List Formula)
    → formula_tree (f.Apply n (Some xs)) ≡ apply n (formula_trees xs)
tree-Apply_to n xs = ap formula_tree
    (sym (f.rolls-Apply n (Some xs))) ∙ fold-roll-Formula FormulaTree node
    (Formula-F.Apply n (Some xs))

pub ruleset tree_rules = (
  tree-Forall,
  tree-Exists,
  tree-Implies,
  tree-Or,
  tree-And,
  tree-Equal,
  tree-NotEqual,
  tree-LessEqual,
  tree-Less,
  tree-Group,
  tree-Pair,
  tree-True,
  tree-False,
  tree-Empty,
  tree-Init,
  tree-If,
  tree-Find,
  tree-Diff,
  tree-Not,
  tree-Fst,
  tree-Snd,
  tree-OfBool,
  tree-Happens,
  tree-Pred,
  tree-Input,
  tree-Output,
  tree-Cond,
  tree-Exec,
  tree-Frame,
  tree-Apply,
  tree-Apply_to,
)
