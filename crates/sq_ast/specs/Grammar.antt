-- The grammar of formulas: which tokens a tree stands for, and which trees each form has.
use Rattle.std.specs.Prelude.{◌≡◌, ℕ, ◌≤◌, List, [], ◌∷◌, ◌++◌, ⊤}
use Rattle.sq_base.specs.declared.sort.Sort.{Sort}
use Rattle.sq_base.specs.declared.sort.Sort.TheVariants as sort
use Rattle.sq_token.specs.declared.kind.Reserved.{Reserved}
use Rattle.sq_token.specs.declared.kind.Reserved.TheVariants as r
use Rattle.sq_token.specs.declared.kind.Punctuation.{Punctuation}
use Rattle.sq_token.specs.declared.kind.Punctuation.TheVariants as p
use Rattle.sq_token.specs.Sign.{Sign, word, reserved, mark}
use Rattle.sq_ast.specs.declared.formula.Form.{Form}
use Rattle.sq_ast.specs.declared.formula.Form.TheVariants.{Time, Term, Atom, Conj, Disj, Formula}
use Rattle.sq_ast.specs.declared.formula.Quantifier.{Quantifier}
use Rattle.sq_ast.specs.declared.formula.Quantifier.TheVariants.{Forall, Exists}
use Rattle.sq_ast.specs.declared.formula.Binary.{Binary}
use Rattle.sq_ast.specs.declared.formula.Binary.TheVariants.{Implies, Or, And, Equal, NotEqual}
use Rattle.sq_ast.specs.declared.formula.Binary.TheVariants.{LessEqual, Less}
use Rattle.sq_ast.specs.declared.formula.Constant.{Constant}
use Rattle.sq_ast.specs.declared.formula.Constant.TheVariants.{True, False, Empty, Init}
use Rattle.sq_ast.specs.declared.formula.Unary.{Unary}
use Rattle.sq_ast.specs.declared.formula.Unary.TheVariants.{Not, Fst, Snd, OfBool, Happens, Pred}
use Rattle.sq_ast.specs.declared.formula.MacroWord.{MacroWord}
use Rattle.sq_ast.specs.declared.formula.MacroWord.TheVariants.{Input, Output, Cond, Exec, Frame}
use Rattle.sq_ast.specs.Tree.{Group, FormulaTree, quantified, binary, group, pair, constant}
use Rattle.sq_ast.specs.Tree.{conditional, find, diff, unary, value, name, apply, FormulaTrees}
use Rattle.sq_ast.specs.Tree.{none, more}

-- ---- tokens that stand for themselves

abbrev pub quantifier_word : Quantifier → Reserved
quantifier_word Forall = r.Forall
quantifier_word Exists = r.Exists

abbrev pub binary_mark : Binary → Punctuation
binary_mark Implies = p.Implies
binary_mark Or = p.Or
binary_mark And = p.And
binary_mark Equal = p.Equals
binary_mark NotEqual = p.Differs
binary_mark LessEqual = p.AtMost
binary_mark Less = p.Less

abbrev pub constant_word : Constant → Reserved
constant_word True = r.True
constant_word False = r.False
constant_word Empty = r.Empty
constant_word Init = r.Init

abbrev pub unary_word : Unary → Reserved
unary_word Not = r.Not
unary_word Fst = r.Fst
unary_word Snd = r.Snd
unary_word OfBool = r.OfBool
unary_word Happens = r.Happens
unary_word Pred = r.Pred

abbrev pub macro_word : MacroWord → Reserved
macro_word Input = r.Input
macro_word Output = r.Output
macro_word Cond = r.Cond
macro_word Exec = r.Exec
macro_word Frame = r.Frame

abbrev pub sort_word : Sort → Reserved
sort_word sort.Message = r.Message
sort_word sort.Boolean = r.Boolean
sort_word sort.Index = r.Index
sort_word sort.Timestamp = r.Timestamp

-- ---- identifiers and binders

-- identifiers, each behind a comma
abbrev pub more_names_spelled : List (List ℕ) → List Sign
more_names_spelled [] = []
more_names_spelled (n ∷ ns) = mark p.Comma ∷ word n ∷ more_names_spelled ns

-- identifiers that are parted by commas
abbrev pub names_spelled : List (List ℕ) → List Sign
names_spelled [] = []
names_spelled (n ∷ ns) = word n ∷ more_names_spelled ns

abbrev pub group_spelled : Group → List Sign
group_spelled g = names_spelled g.0 ++ mark p.Colon ∷ reserved (sort_word g.1) ∷ []

abbrev pub more_groups_spelled : List Group → List Sign
more_groups_spelled [] = []
more_groups_spelled (g ∷ gs) = mark p.Comma ∷ (group_spelled g ++ more_groups_spelled gs)

abbrev pub groups_spelled : List Group → List Sign
groups_spelled [] = []
groups_spelled (g ∷ gs) = group_spelled g ++ more_groups_spelled gs

-- one item or more
abbrev pub IsFilled : {A : Type 0} → List A → Type 0
IsFilled [] = ⊥
IsFilled (x ∷ xs) = ⊤

-- the sorts that a binder may have
abbrev pub IsBinderSort : Sort → Type 0
IsBinderSort sort.Message = ⊤
IsBinderSort sort.Boolean = ⊥
IsBinderSort sort.Index = ⊤
IsBinderSort sort.Timestamp = ⊤

abbrev pub AreGroups : List Group → Type 0
AreGroups [] = ⊤
AreGroups (g ∷ gs) = IsFilled g.0 × IsBinderSort g.1 × AreGroups gs

abbrev pub AreBinders : List Group → Type 0
AreBinders gs = IsFilled gs × AreGroups gs

-- ---- trees

-- the tokens that a tree stands for
abbrev mutual
  pub spelled : FormulaTree → List Sign
  spelled (quantified q gs a) = reserved (quantifier_word q) ∷ mark p.OpenParenthesis
      ∷ (groups_spelled gs ++ mark p.CloseParenthesis ∷ mark p.Comma ∷ spelled a)
  spelled (binary o a b) = spelled a ++ mark (binary_mark o) ∷ spelled b
  spelled (group a) = mark p.OpenParenthesis ∷ (spelled a ++ mark p.CloseParenthesis ∷ [])
  spelled (pair a b) = mark p.Less
      ∷ (spelled a ++ mark p.Comma ∷ (spelled b ++ mark p.Greater ∷ []))
  spelled (constant c) = reserved (constant_word c) ∷ []
  spelled (conditional a b c) = reserved r.If
      ∷ (spelled a ++ reserved r.Then ∷ (spelled b ++ reserved r.Else ∷ spelled c))
  spelled (find ns a b c) = reserved r.Find
      ∷ (names_spelled ns ++ reserved r.Such ∷ reserved r.That
      ∷ (spelled a ++ reserved r.In ∷ (spelled b ++ reserved r.Else ∷ spelled c)))
  spelled (diff a b) = reserved r.Diff ∷ mark p.OpenParenthesis
      ∷ (spelled a ++ mark p.Comma ∷ (spelled b ++ mark p.CloseParenthesis ∷ []))
  spelled (unary u a) = reserved (unary_word u) ∷ mark p.OpenParenthesis
      ∷ (spelled a ++ mark p.CloseParenthesis ∷ [])
  spelled (value m a) = reserved (macro_word m) ∷ mark p.At ∷ spelled a
  spelled (name n) = word n ∷ []
  spelled (apply n xs) = word n ∷ mark p.OpenParenthesis
      ∷ (list_spelled xs ++ mark p.CloseParenthesis ∷ [])

  -- formulas that are parted by commas
  pub list_spelled : FormulaTrees → List Sign
  list_spelled none = []
  list_spelled (more a xs) = spelled a ++ more_spelled xs

  -- formulas, each behind a comma
  pub more_spelled : FormulaTrees → List Sign
  more_spelled none = []
  more_spelled (more a xs) = mark p.Comma ∷ (spelled a ++ more_spelled xs)

-- ---- forms

-- How loosely a form binds. A form has the trees of each form that binds no looser, but that a
-- `time` has its own trees alone.
abbrev pub rank : Form → ℕ
rank Time = 0
rank Term = 0
rank Atom = 1
rank Conj = 2
rank Disj = 3
rank Formula = 4

abbrev pub binary_rank : Binary → ℕ
binary_rank Implies = 4
binary_rank Or = 3
binary_rank And = 2
binary_rank Equal = 1
binary_rank NotEqual = 1
binary_rank LessEqual = 1
binary_rank Less = 1

-- the form of the left operand
abbrev pub left_form : Binary → Form
left_form Implies = Disj
left_form Or = Conj
left_form And = Atom
left_form Equal = Term
left_form NotEqual = Term
left_form LessEqual = Term
left_form Less = Term

-- the form of the right operand
abbrev pub operand_form : Binary → Form
operand_form Implies = Formula
operand_form Or = Disj
operand_form And = Conj
operand_form Equal = Term
operand_form NotEqual = Term
operand_form LessEqual = Term
operand_form Less = Term

-- the form of what stands in the parentheses
abbrev pub argument_form : Unary → Form
argument_form Not = Formula
argument_form Fst = Formula
argument_form Snd = Formula
argument_form OfBool = Formula
argument_form Happens = Time
argument_form Pred = Time

-- the rank of the tightest form that has the tree
abbrev pub tree_rank : FormulaTree → ℕ
tree_rank (quantified q gs a) = 4
tree_rank (binary o a b) = binary_rank o
tree_rank (group a) = 0
tree_rank (pair a b) = 0
tree_rank (constant c) = 0
tree_rank (conditional a b c) = 0
tree_rank (find ns a b c) = 0
tree_rank (diff a b) = 0
tree_rank (unary u a) = 0
tree_rank (value m a) = 0
tree_rank (name n) = 0
tree_rank (apply n xs) = 0

-- identifiers alone
abbrev pub AreNames : FormulaTrees → Type 0
AreNames none = ⊤
AreNames (more (name n) xs) = AreNames xs
AreNames (more _ xs) = ⊥

-- a timestamp: `init`, `pred(time)`, or an identifier with or without identifiers as arguments
abbrev pub IsTime : FormulaTree → Type 0
IsTime (constant Init) = ⊤
IsTime (unary Pred a) = ⊤
IsTime (name n) = ⊤
IsTime (apply n xs) = AreNames xs
IsTime _ = ⊥

abbrev pub HasForm : Form → FormulaTree → Type 0
HasForm Time t = IsTime t
HasForm Term t = tree_rank t ≤ 0
HasForm Atom t = tree_rank t ≤ 1
HasForm Conj t = tree_rank t ≤ 2
HasForm Disj t = tree_rank t ≤ 3
HasForm Formula t = tree_rank t ≤ 4

abbrev pub IsSome : FormulaTrees → Type 0
IsSome none = ⊥
IsSome (more a xs) = ⊤

-- each part is of the form that the grammar asks for, and no list is empty
abbrev mutual
  pub IsBuilt : FormulaTree → Type 0
  IsBuilt (quantified q gs a) = AreBinders gs × IsBuilt a
  IsBuilt (binary o a b) =
      HasForm (left_form o) a × IsBuilt a × HasForm (operand_form o) b × IsBuilt b
  IsBuilt (group a) = IsBuilt a
  IsBuilt (pair a b) = HasForm Term a × IsBuilt a × HasForm Term b × IsBuilt b
  IsBuilt (constant c) = ⊤
  IsBuilt (conditional a b c) = IsBuilt a × HasForm Term b × IsBuilt b × HasForm Term c × IsBuilt c
  IsBuilt (find ns a b c) =
      IsFilled ns × IsBuilt a × HasForm Term b × IsBuilt b × HasForm Term c × IsBuilt c
  IsBuilt (diff a b) = IsBuilt a × IsBuilt b
  IsBuilt (unary u a) = HasForm (argument_form u) a × IsBuilt a
  IsBuilt (value m a) = HasForm Time a × IsBuilt a
  IsBuilt (name n) = ⊤
  IsBuilt (apply n xs) = IsSome xs × AreBuilt xs

  pub AreBuilt : FormulaTrees → Type 0
  AreBuilt none = ⊤
  AreBuilt (more a xs) = IsBuilt a × AreBuilt xs

-- these tokens have this tree, as that form
pub record Is (f : Form) (t : FormulaTree) (ts : List Sign) : Type 0 where
  pub form_is : HasForm f t
  pub built : IsBuilt t
  pub spelled_is : ts ≡ spelled t
