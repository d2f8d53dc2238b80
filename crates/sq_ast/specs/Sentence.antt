-- What sentences are made of: tokens and parts, one behind the other.
use Rattle.std.specs.Prelude.{◌≡◌, ℕ, zero, suc, max, Bool, true, false, List, [], ◌∷◌, ◌++◌}
use Rattle.std.specs.Prelude.{Option, Some, None, ◌⊎◌, ⊤}
use Rattle.sq_token.specs.declared.kind.Reserved.{Reserved}
use Rattle.sq_token.specs.declared.kind.Reserved.TheVariants as r
use Rattle.sq_token.specs.declared.kind.Punctuation.TheVariants as p
use Rattle.sq_token.specs.Sign.{Sign, word, number, reserved, mark}
use Rattle.sq_ast.specs.declared.formula.MacroWord.{MacroWord}
use Rattle.sq_ast.specs.declared.formula.Form.{Form}
use Rattle.sq_ast.specs.declared.formula.Form.TheVariants as form
use Rattle.sq_ast.specs.Tree.{Group, FormulaTree, FormulaTrees, none, more}
use Rattle.sq_ast.specs.Grammar.{macro_word, groups_spelled, IsFilled, AreBinders, spelled}
use Rattle.sq_ast.specs.Grammar.{list_spelled, HasForm, IsSome, IsBuilt, AreBuilt}
use Rattle.sq_ast.specs.Deep.{height, heights, IsLongest, ListDeep, RunsDeep}
use Rattle.sq_ast.specs.ProcTree.{ProcTree}
use Rattle.sq_ast.specs.ProcGrammar.{process_spelled, IsProcess, process_height, ProcessRunsDeep}

pub data Part : Type 0 where
  -- the first token or the second
  either : Sign → Sign → Part
  -- the token, where it stands there
  optional : Sign → Part
  identifier : Part
  -- one identifier or more, one behind the other
  identifiers : Part
  -- an identifier, where one stands there
  another : Part
  -- `in` and an identifier, where they stand there
  place : Part
  a_number : Part
  -- one number or more, one behind the other
  numbers : Part
  a_macro : Part
  -- the word and an arrow, any number of times
  arrows : Reserved → Part
  -- binders in parentheses, where they stand there
  parameters : Part
  a_formula : Form → Part
  -- formulas with commas between
  formulas : Part
  -- the same, where they stand there
  values : Part
  -- the same in brackets, where they stand there
  hypotheses : Part
  a_process : Part

-- what a part says
abbrev pub ValueOf : Part → Type 0
ValueOf (either s t) = Bool
ValueOf (optional s) = Bool
ValueOf identifier = List ℕ
ValueOf identifiers = List (List ℕ)
ValueOf another = Option (List ℕ)
ValueOf place = Option (List ℕ)
ValueOf a_number = ℕ
ValueOf numbers = List ℕ
ValueOf a_macro = MacroWord
ValueOf (arrows w) = ℕ
ValueOf parameters = Option (List Group)
ValueOf (a_formula f) = FormulaTree
ValueOf formulas = FormulaTrees
ValueOf values = Option FormulaTrees
ValueOf hypotheses = Option FormulaTrees
ValueOf a_process = ProcTree

-- ---- tokens

abbrev pub either_spelled : Sign → Sign → Bool → List Sign
either_spelled s t true = s ∷ []
either_spelled s t false = t ∷ []

abbrev pub optional_spelled : Sign → Bool → List Sign
optional_spelled s true = s ∷ []
optional_spelled s false = []

abbrev pub words : List (List ℕ) → List Sign
words [] = []
words (n ∷ ns) = word n ∷ words ns

abbrev pub another_spelled : Option (List ℕ) → List Sign
another_spelled None = []
another_spelled (Some n) = word n ∷ []

abbrev pub place_spelled : Option (List ℕ) → List Sign
place_spelled None = []
place_spelled (Some n) = reserved r.In ∷ word n ∷ []

abbrev pub numbers_spelled : List ℕ → List Sign
numbers_spelled [] = []
numbers_spelled (k ∷ ks) = number k ∷ numbers_spelled ks

abbrev pub arrows_spelled : Reserved → ℕ → List Sign
arrows_spelled w zero = []
arrows_spelled w (suc k) = reserved w ∷ mark p.Arrow ∷ arrows_spelled w k

abbrev pub parameters_spelled : Option (List Group) → List Sign
parameters_spelled None = []
parameters_spelled (Some gs) = mark p.OpenParenthesis
    ∷ (groups_spelled gs ++ mark p.CloseParenthesis ∷ [])

abbrev pub values_spelled : Option FormulaTrees → List Sign
values_spelled None = []
values_spelled (Some xs) = list_spelled xs

abbrev pub hypotheses_spelled : Option FormulaTrees → List Sign
hypotheses_spelled None = []
hypotheses_spelled (Some xs) = mark p.OpenBracket ∷ (list_spelled xs ++ mark p.CloseBracket ∷ [])

abbrev pub part_spelled : (a : Part) → ValueOf a → List Sign
part_spelled (either s t) v = either_spelled s t v
part_spelled (optional s) v = optional_spelled s v
part_spelled identifier v = word v ∷ []
part_spelled identifiers v = words v
part_spelled another v = another_spelled v
part_spelled place v = place_spelled v
part_spelled a_number v = number v ∷ []
part_spelled numbers v = numbers_spelled v
part_spelled a_macro v = reserved (macro_word v) ∷ []
part_spelled (arrows w) v = arrows_spelled w v
part_spelled parameters v = parameters_spelled v
part_spelled (a_formula f) v = spelled v
part_spelled formulas v = list_spelled v
part_spelled values v = values_spelled v
part_spelled hypotheses v = hypotheses_spelled v
part_spelled a_process v = process_spelled v

-- ---- which trees there are

abbrev pub AreParameters : Option (List Group) → Type 0
AreParameters None = ⊤
AreParameters (Some gs) = AreBinders gs

abbrev pub AreFormulas : FormulaTrees → Type 0
AreFormulas xs = IsSome xs × AreBuilt xs

abbrev pub AreValues : Option FormulaTrees → Type 0
AreValues None = ⊤
AreValues (Some xs) = AreFormulas xs

-- each tree is of the form that is asked for, and no list is empty
abbrev pub Fits : (a : Part) → ValueOf a → Type 0
Fits (either s t) v = ⊤
Fits (optional s) v = ⊤
Fits identifier v = ⊤
Fits identifiers v = IsFilled v
Fits another v = ⊤
Fits place v = ⊤
Fits a_number v = ⊤
Fits numbers v = IsFilled v
Fits a_macro v = ⊤
Fits (arrows w) v = ⊤
Fits parameters v = AreParameters v
Fits (a_formula f) v = HasForm f v × IsBuilt v
Fits formulas v = AreFormulas v
Fits values v = AreValues v
Fits hypotheses v = AreValues v
Fits a_process v = IsProcess v

-- ---- depth: that of the deepest tree, since a sentence is no node

abbrev pub values_height : Option FormulaTrees → ℕ
values_height None = 0
values_height (Some xs) = heights xs

abbrev pub part_height : (a : Part) → ValueOf a → ℕ
part_height (a_formula f) v = height v
part_height formulas v = heights v
part_height values v = values_height v
part_height hypotheses v = values_height v
part_height a_process v = process_height v
part_height _ v = 0

-- ---- places that run deep, with d nodes still to go to the limit

-- formulas with commas between, each the longest in its place, and q is behind them
abbrev pub AreLongest : FormulaTrees → List Sign → List Sign → Type 0
AreLongest none ts q = ⊥
AreLongest (more a none) ts q = IsLongest form.Formula ts a q
AreLongest (more a xs) ts q =
    (u : List Sign) × IsLongest form.Formula ts a (mark p.Comma ∷ u) × AreLongest xs u q

abbrev pub AreLongestIn : Option FormulaTrees → List Sign → List Sign → Type 0
AreLongestIn None ts q = ⊤
AreLongestIn (Some xs) ts q =
    (u : List Sign) × (ts ≡ mark p.OpenBracket ∷ u) × AreLongest xs u (mark p.CloseBracket ∷ q)

-- The trees of the part are the longest in their places. Behind a part of another kind no part
-- runs deep.
abbrev pub IsLongestPart : (a : Part) → ValueOf a → List Sign → List Sign → Type 0
IsLongestPart (a_formula f) v ts q = IsLongest f ts v q
IsLongestPart hypotheses v ts q = AreLongestIn v ts q
IsLongestPart _ v ts q = ⊤

-- the part stands there, and q is behind it
pub record Passes (a : Part) (ts : List Sign) (v : ValueOf a) (q : List Sign) : Type 0 where
  pub fits : Fits a v
  pub split : ts ≡ part_spelled a v ++ q
  pub longest : IsLongestPart a v ts q

abbrev pub ListRunsDeep : ℕ → List Sign → Type 0
ListRunsDeep d ts = (before : FormulaTrees) × ListDeep (RunsDeep d) before ts

abbrev pub PartDeep : ℕ → Part → List Sign → Type 0
PartDeep d (a_formula f) ts = RunsDeep d f ts
PartDeep d formulas ts = ListRunsDeep d ts
PartDeep d values ts = ListRunsDeep d ts
PartDeep d hypotheses ts = (q : List Sign) × (ts ≡ mark p.OpenBracket ∷ q) × ListRunsDeep d q
PartDeep d a_process ts = ProcessRunsDeep d ts
PartDeep d _ ts = ⊥

-- ---- tokens and parts in a row

pub data Element : Type 0 where
  literal : Sign → Element
  part : Part → Element

-- what the parts say, in order
abbrev pub Values : List Element → Type 0
Values [] = ⊤
Values (literal s ∷ es) = Values es
Values (part a ∷ es) = ValueOf a × Values es

abbrev pub all_spelled : (es : List Element) → Values es → List Sign
all_spelled [] vs = []
all_spelled (literal s ∷ es) vs = s ∷ all_spelled es vs
all_spelled (part a ∷ es) vs = part_spelled a vs.0 ++ all_spelled es vs.1

abbrev pub AllFit : (es : List Element) → Values es → Type 0
AllFit [] vs = ⊤
AllFit (literal s ∷ es) vs = AllFit es vs
AllFit (part a ∷ es) vs = Fits a vs.0 × AllFit es vs.1

abbrev pub all_height : (es : List Element) → Values es → ℕ
all_height [] vs = 0
all_height (literal s ∷ es) vs = all_height es vs
all_height (part a ∷ es) vs = max (part_height a vs.0) (all_height es vs.1)

-- one of the parts runs deep behind those before it
abbrev pub RowDeep : ℕ → List Element → List Sign → Type 0
RowDeep d [] ts = ⊥
RowDeep d (literal s ∷ es) ts = (q : List Sign) × (ts ≡ s ∷ q) × RowDeep d es q
RowDeep d (part a ∷ es) ts = PartDeep d a ts
    ⊎ ((v : ValueOf a) × (q : List Sign) × Passes a ts v q × RowDeep d es q)
