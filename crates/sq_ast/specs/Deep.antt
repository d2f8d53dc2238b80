-- How deep a tree is, the longest trees, and which places run deep.
use Rattle.std.specs.Prelude.{◌≡◌, ℕ, zero, suc, ◌+◌, max, ◌≤◌, List, [], ◌∷◌, ◌++◌, length, ◌⊎◌, ⊤}
use Rattle.sq_token.specs.declared.kind.Reserved.TheVariants as r
use Rattle.sq_token.specs.declared.kind.Punctuation.TheVariants as p
use Rattle.sq_token.specs.Sign.{Sign, word, reserved, mark}
use Rattle.sq_ast.specs.declared.formula.Form.{Form}
use Rattle.sq_ast.specs.declared.formula.Form.TheVariants.{Time, Term, Formula}
use Rattle.sq_ast.specs.declared.formula.Quantifier.{Quantifier}
use Rattle.sq_ast.specs.declared.formula.Binary.{Binary}
use Rattle.sq_ast.specs.declared.formula.Unary.{Unary}
use Rattle.sq_ast.specs.declared.formula.Unary.TheVariants.{Pred}
use Rattle.sq_ast.specs.declared.formula.MacroWord.{MacroWord}
use Rattle.sq_ast.specs.Tree.{Group, FormulaTree, quantified, binary, group, pair, constant}
use Rattle.sq_ast.specs.Tree.{conditional, find, diff, unary, value, name, apply, FormulaTrees}
use Rattle.sq_ast.specs.Tree.{none, more}
use Rattle.sq_ast.specs.Grammar.{quantifier_word, binary_mark, unary_word, macro_word}
use Rattle.sq_ast.specs.Grammar.{names_spelled, groups_spelled, IsFilled, AreBinders, spelled, rank}
use Rattle.sq_ast.specs.Grammar.{binary_rank, left_form, operand_form, argument_form, HasForm}
use Rattle.sq_ast.specs.Grammar.{IsBuilt}

-- how many nodes stand one inside the other; a leaf has depth 1
abbrev mutual
  pub height : FormulaTree → ℕ
  height (quantified q gs a) = 1 + height a
  height (binary o a b) = 1 + max (height a) (height b)
  height (group a) = 1 + height a
  height (pair a b) = 1 + max (height a) (height b)
  height (constant c) = 1
  height (conditional a b c) = 1 + max (height a) (max (height b) (height c))
  height (find ns a b c) = 1 + max (height a) (max (height b) (height c))
  height (diff a b) = 1 + max (height a) (height b)
  height (unary u a) = 1 + height a
  height (value m a) = 1 + height a
  height (name n) = 1
  height (apply n xs) = 1 + heights xs

  pub heights : FormulaTrees → ℕ
  heights none = 0
  heights (more a xs) = max (height a) (heights xs)

-- ---- longest trees

-- a tree of the form begins the tokens, and r is behind it
pub record IsFront (f : Form) (ts : List Sign) (t : FormulaTree) (r : List Sign) : Type 0 where
  pub form_is : HasForm f t
  pub built : IsBuilt t
  pub split : ts ≡ spelled t ++ r

-- and none that begins them is longer
pub record IsLongest (f : Form) (ts : List Sign) (t : FormulaTree) (r : List Sign) : Type 0 where
  pub front : IsFront f ts t r
  pub longest : (u : FormulaTree) (q : List Sign) → IsFront f ts u q → length r ≤ length q

-- ---- the alternatives whose parts stand in a fixed order

pub data Alternative : Type 0 where
  quantification : Quantifier → List Group → Alternative
  grouping : Alternative
  pairing : Alternative
  condition : Alternative
  finding : List (List ℕ) → Alternative
  difference : Alternative
  call : Unary → Alternative
  valuation : MacroWord → Alternative

-- the tokens that tell which alternative it is
abbrev pub lead : Alternative → List Sign
lead (quantification q gs) = reserved (quantifier_word q) ∷ mark p.OpenParenthesis
    ∷ groups_spelled gs
lead grouping = mark p.OpenParenthesis ∷ []
lead pairing = mark p.Less ∷ []
lead condition = reserved r.If ∷ []
lead (finding ns) = reserved r.Find ∷ names_spelled ns
lead difference = reserved r.Diff ∷ []
lead (call u) = reserved (unary_word u) ∷ []
lead (valuation m) = reserved (macro_word m) ∷ []

-- a token that stands for itself, or a part
pub data Element : Type 0 where
  token : Sign → Element
  part : Form → Element

-- what stands behind those tokens, in order
abbrev pub elements : Alternative → List Element
elements (quantification q gs) = token (mark p.CloseParenthesis) ∷ token (mark p.Comma)
    ∷ part Formula ∷ []
elements grouping = part Formula ∷ token (mark p.CloseParenthesis) ∷ []
elements pairing = part Term ∷ token (mark p.Comma) ∷ part Term ∷ token (mark p.Greater) ∷ []
elements condition = part Formula ∷ token (reserved r.Then) ∷ part Term ∷ token (reserved r.Else)
    ∷ part Term ∷ []
elements (finding ns) = token (reserved r.Such) ∷ token (reserved r.That) ∷ part Formula
    ∷ token (reserved r.In) ∷ part Term ∷ token (reserved r.Else) ∷ part Term ∷ []
elements difference = token (mark p.OpenParenthesis) ∷ part Formula ∷ token (mark p.Comma)
    ∷ part Formula ∷ token (mark p.CloseParenthesis) ∷ []
elements (call u) = token (mark p.OpenParenthesis) ∷ part (argument_form u)
    ∷ token (mark p.CloseParenthesis) ∷ []
elements (valuation m) = token (mark p.At) ∷ part Time ∷ []

-- no list of identifiers or binders is empty
abbrev pub IsWhole : Alternative → Type 0
IsWhole (quantification q gs) = AreBinders gs
IsWhole (finding ns) = IsFilled ns
IsWhole _ = ⊤

-- which form has the alternative
abbrev pub IsOf : Form → Alternative → Type 0
IsOf Formula (quantification q gs) = ⊤
IsOf Time (call Pred) = ⊤
IsOf Term (quantification q gs) = ⊥
IsOf Term _ = ⊤
IsOf _ _ = ⊥

-- ---- places that run deep

-- R f ts: with one more node around it, ts runs deep as the form f
module _ (R : Form → List Sign → Type 0) where
  -- one of the parts runs deep; those before it are the longest in their places
  abbrev pub ElementDeep : List Element → List Sign → Type 0
  ElementDeep [] ts = ⊥
  ElementDeep (token s ∷ es) ts = (q : List Sign) × (ts ≡ s ∷ q) × ElementDeep es q
  ElementDeep (part f ∷ es) ts = R f ts
      ⊎ ((a : FormulaTree) × (q : List Sign) × IsLongest f ts a q × ElementDeep es q)

  pub record AlternativeDeep (f : Form) (ts : List Sign) : Type 0 where
    pub alternative : Alternative
    pub of_form : IsOf f alternative
    pub whole : IsWhole alternative
    pub rest : List Sign
    pub split : ts ≡ lead alternative ++ rest
    pub runs : ElementDeep (elements alternative) rest

  -- behind some formulas, each with its comma
  abbrev pub ListDeep : FormulaTrees → List Sign → Type 0
  ListDeep none ts = R Formula ts
  ListDeep (more a xs) ts =
      (q : List Sign) × IsLongest Formula ts a (mark p.Comma ∷ q) × ListDeep xs q

  pub record ArgumentDeep (ts : List Sign) : Type 0 where
    pub function : List ℕ
    pub before : FormulaTrees
    pub rest : List Sign
    pub split : ts ≡ word function ∷ mark p.OpenParenthesis ∷ rest
    pub runs : ListDeep before rest

  -- in the right operand of an operator of this rank
  pub record OperandDeep (l : ℕ) (ts : List Sign) : Type 0 where
    pub left : FormulaTree
    pub operator : Binary
    pub rest : List Sign
    pub operator_is : binary_rank operator ≡ l
    pub longest : IsLongest (left_form operator) ts left (mark (binary_mark operator) ∷ rest)
    pub runs : R (operand_form operator) rest

  -- the left operand, and a form that is only passed through, have as many nodes around them
  abbrev pub RankDeep : ℕ → List Sign → Type 0
  RankDeep zero ts = AlternativeDeep Term ts ⊎ ArgumentDeep ts
  RankDeep (suc l) ts = RankDeep l ts ⊎ OperandDeep (suc l) ts

  abbrev pub FormDeep : Form → List Sign → Type 0
  FormDeep Time ts = AlternativeDeep Time ts
  FormDeep Formula ts = AlternativeDeep Formula ts ⊎ RankDeep 4 ts
  FormDeep f ts = RankDeep (rank f) ts

-- With d nodes still to go to the limit, the place runs deep as the form. At the limit each does.
abbrev pub RunsDeep : ℕ → Form → List Sign → Type 0
RunsDeep zero f ts = ⊤
RunsDeep (suc d) f ts = FormDeep (RunsDeep d) f ts
