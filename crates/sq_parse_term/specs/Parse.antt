-- Reading a tree from the front of a list of tokens.
use Rattle.std.specs.Prelude.{ℕ, zero, suc, Bool, false, if◌then◌else◌, nat_eq, List, [], ◌∷◌}
use Rattle.std.specs.Prelude.{length, Option, Some, None}
use Rattle.std.specs.Str.{bytes_eq}
use denote.Enum.Bare.{sameb}
use Rattle.sq_base.specs.declared.sort.Sort.{Sort}
use Rattle.sq_base.specs.declared.sort.Sort.TheVariants as sort
use Rattle.sq_token.specs.contracts.kind.Reserved.{the_type as reserved_type}
use Rattle.sq_token.specs.contracts.kind.Punctuation.{the_type as mark_type}
use Rattle.sq_token.specs.declared.kind.Reserved.{Reserved}
use Rattle.sq_token.specs.declared.kind.Reserved.TheVariants as r
use Rattle.sq_token.specs.declared.kind.Punctuation.{Punctuation}
use Rattle.sq_token.specs.declared.kind.Punctuation.TheVariants as p
use Rattle.sq_token.specs.Sign.{Sign, word, number, reserved, mark}
use Rattle.sq_ast.specs.declared.formula.Form.{Form}
use Rattle.sq_ast.specs.declared.formula.Form.TheVariants as form
use Rattle.sq_ast.specs.declared.formula.Quantifier.{Quantifier}
use Rattle.sq_ast.specs.declared.formula.Quantifier.TheVariants.{Forall, Exists}
use Rattle.sq_ast.specs.declared.formula.Binary.{Binary}
use Rattle.sq_ast.specs.declared.formula.Binary.TheVariants.{Implies, Or, And, Equal, NotEqual}
use Rattle.sq_ast.specs.declared.formula.Binary.TheVariants.{LessEqual, Less}
use Rattle.sq_ast.specs.declared.formula.Constant.TheVariants.{True, False, Empty, Init}
use Rattle.sq_ast.specs.declared.formula.Unary.TheVariants.{Not, Fst, Snd, OfBool, Happens, Pred}
use Rattle.sq_ast.specs.declared.formula.MacroWord.TheVariants.{Input, Output, Cond, Exec, Frame}
use Rattle.sq_parse_term.specs.declared.words.Start.{Start}
use Rattle.sq_parse_term.specs.declared.words.Start.TheVariants as start
use Rattle.sq_ast.specs.Tree.{Group, FormulaTree, quantified, binary, group, pair, constant}
use Rattle.sq_ast.specs.Tree.{conditional, find, diff, unary, value, name, apply, FormulaTrees}
use Rattle.sq_ast.specs.Tree.{more}
use Rattle.sq_ast.specs.Tree as tree
use Rattle.sq_ast.specs.Grammar.{binary_rank, operand_form}
use Rattle.sq_ast.specs.Deep.{Alternative, quantification, grouping, pairing, condition, finding}
use Rattle.sq_ast.specs.Deep.{difference, call, valuation, Element, token, part, elements}

-- the place runs deep, nothing begins there, or this does and what is behind it
pub data Read (A : Type 0) : Type 0 where
  deep : Read A
  none : Read A
  got : A → List Sign → Read A

abbrev pub bind : {A B : Type 0} → Read A → (A → List Sign → Read B) → Read B
bind deep f = deep
bind none f = none
bind (got a q) f = f a q

-- where there is none, something else
abbrev pub recover : {A B : Type 0} → Read A → (A → List Sign → Read B) → Read B → Read B
recover deep f d = deep
recover none f d = d
recover (got a q) f d = f a q

-- ---- single tokens

unfoldable pub same : Sign → Sign → Bool
same (word v) (word w) = bytes_eq v w
same (number m) (number n) = nat_eq m n
same (reserved v) (reserved w) = sameb reserved_type v w
same (mark i) (mark j) = sameb mark_type i j
same _ _ = false

unfoldable pub eat : Sign → List Sign → Read (Unit {0})
eat s [] = none
eat s (t ∷ q) = if same t s then got tt q else none

abbrev pub comma : List Sign → Read (Unit {0})
comma ts = eat (mark p.Comma) ts

abbrev pub identifier : List Sign → Read (List ℕ)
identifier [] = none
identifier (word w ∷ q) = got w q
identifier (_ ∷ q) = none

abbrev pub sort_of : Reserved → Option Sort
sort_of r.Index = Some sort.Index
sort_of r.Timestamp = Some sort.Timestamp
sort_of r.Message = Some sort.Message
sort_of _ = None

abbrev pub got_some : {A : Type 0} → Option A → List Sign → Read A
got_some None q = none
got_some (Some a) q = got a q

abbrev pub sort_name : List Sign → Read Sort
sort_name (reserved w ∷ q) = got_some (sort_of w) q
sort_name _ = none

-- ---- lists of identifiers and of groups

-- one and then more of them, with commas between; at most so many
module _ {A : Type 0} (one : List Sign → Read A) where
  unfoldable pub listed : ℕ → List Sign → Read (List A)
  listed zero ts = none
  listed (suc m) ts = bind (one ts)
      (λ a q. recover (comma q) (λ _ u. bind (listed m u) (λ xs v. got (a ∷ xs) v))
      (got (a ∷ []) q))

abbrev pub identifiers : List Sign → Read (List (List ℕ))
identifiers ts = listed identifier (length ts) ts

abbrev pub binder_group : List Sign → Read Group
binder_group ts = bind (identifiers ts)
    (λ ns q. bind (eat (mark p.Colon) q) (λ _ u. bind (sort_name u) (λ s v. got (ns, s) v)))

abbrev pub binders : List Sign → Read (List Group)
binders ts = listed binder_group (length ts) ts

-- ---- what a token begins or joins

abbrev pub binary_of : Punctuation → Option Binary
binary_of p.Implies = Some Implies
binary_of p.Or = Some Or
binary_of p.And = Some And
binary_of p.Equals = Some Equal
binary_of p.Differs = Some NotEqual
binary_of p.AtMost = Some LessEqual
binary_of p.Less = Some Less
binary_of _ = None

unfoldable pub start_of : Reserved → Option Start
start_of r.Forall = Some (start.Quantifier Forall)
start_of r.Exists = Some (start.Quantifier Exists)
start_of r.True = Some (start.Constant True)
start_of r.False = Some (start.Constant False)
start_of r.Empty = Some (start.Constant Empty)
start_of r.Init = Some (start.Constant Init)
start_of r.Not = Some (start.Unary Not)
start_of r.Fst = Some (start.Unary Fst)
start_of r.Snd = Some (start.Unary Snd)
start_of r.OfBool = Some (start.Unary OfBool)
start_of r.Happens = Some (start.Unary Happens)
start_of r.Pred = Some (start.Unary Pred)
start_of r.Input = Some (start.Macro Input)
start_of r.Output = Some (start.Macro Output)
start_of r.Cond = Some (start.Macro Cond)
start_of r.Exec = Some (start.Macro Exec)
start_of r.Frame = Some (start.Macro Frame)
start_of r.If = Some start.If
start_of r.Find = Some start.Find
start_of r.Diff = Some start.Diff
start_of _ = None

-- the tree of an alternative and its parts
abbrev pub build : Alternative → FormulaTrees → FormulaTree
build (quantification q gs) (more a tree.none) = quantified q gs a
build grouping (more a tree.none) = group a
build pairing (more a (more b tree.none)) = pair a b
build condition (more a (more b (more c tree.none))) = conditional a b c
build (finding ns) (more a (more b (more c tree.none))) = find ns a b c
build difference (more a (more b tree.none)) = diff a b
build (call u) (more a tree.none) = unary u a
build (valuation m) (more a tree.none) = value m a
build _ _ = constant Empty

abbrev pub named : List (List ℕ) → FormulaTrees
named [] = tree.none
named (n ∷ ns) = more (name n) (named ns)

abbrev pub instance : List Sign → Read (List (List ℕ))
instance ts = bind (eat (mark p.OpenParenthesis) ts)
    (λ _ q. bind (identifiers q) (λ ns u. bind (eat (mark p.CloseParenthesis) u) (λ _ v. got ns v)))

unfoldable pub action : List ℕ → List Sign → Read FormulaTree
action n ts = recover (instance ts) (λ ns q. got (apply n (named ns)) q) (got (name n) ts)

-- ---- forms

-- P f: reads the form f, with one node fewer still to go
module _ (P : Form → List Sign → Read FormulaTree) where
  -- these tokens and parts; k makes a tree of the parts
  unfoldable pub run : List Element → (FormulaTrees → FormulaTree) → List Sign → Read FormulaTree
  run [] k ts = got (k tree.none) ts
  run (token s ∷ es) k ts = bind (eat s ts) (λ _ q. run es k q)
  run (part f ∷ es) k ts = bind (P f ts) (λ a q. run es (λ xs. k (more a xs)) q)

  abbrev pub alternative : Alternative → List Sign → Read FormulaTree
  alternative a ts = run (elements a) (build a) ts

  -- formulas with commas between
  unfoldable pub formulas : ℕ → List Sign → Read FormulaTrees
  formulas zero ts = none
  formulas (suc m) ts = bind (P form.Formula ts)
      (λ a q. recover (comma q) (λ _ u. bind (formulas m u) (λ xs v. got (more a xs) v))
      (got (more a tree.none) q))

  abbrev pub arguments : List Sign → Read FormulaTrees
  arguments ts = bind (eat (mark p.OpenParenthesis) ts)
      (λ _ q. bind (formulas (suc (length q)) q)
      (λ xs u. bind (eat (mark p.CloseParenthesis) u) (λ _ v. got xs v)))

  unfoldable pub applied : List ℕ → List Sign → Read FormulaTree
  applied n ts = recover (arguments ts) (λ xs q. got (apply n xs) q) (got (name n) ts)

  unfoldable pub found : List Sign → Read FormulaTree
  found ts = bind (identifiers ts) (λ ns q. alternative (finding ns) q)

  unfoldable pub quantifying : Quantifier → List Sign → Read FormulaTree
  quantifying k ts = bind (eat (mark p.OpenParenthesis) ts)
      (λ _ q. bind (binders q) (λ gs u. alternative (quantification k gs) u))

  abbrev pub begun : Option Start → List Sign → Read FormulaTree
  begun None q = none
  begun (Some (start.Quantifier k)) q = none
  begun (Some (start.Constant c)) q = got (constant c) q
  begun (Some (start.Unary u)) q = alternative (call u) q
  begun (Some (start.Macro m)) q = alternative (valuation m) q
  begun (Some start.If) q = alternative condition q
  begun (Some start.Find) q = found q
  begun (Some start.Diff) q = alternative difference q

  abbrev pub marked : Punctuation → List Sign → Read FormulaTree
  marked p.OpenParenthesis q = alternative grouping q
  marked p.Less q = alternative pairing q
  marked _ q = none

  unfoldable pub term : List Sign → Read FormulaTree
  term [] = none
  term (word w ∷ q) = applied w q
  term (number n ∷ q) = none
  term (reserved w ∷ q) = begun (start_of w) q
  term (mark i ∷ q) = marked i q

  abbrev pub joined : ℕ → FormulaTree → Punctuation → List Sign → Option Binary → Read FormulaTree
  joined l a i q None = got a (mark i ∷ q)
  joined l a i q (Some o) =
      if nat_eq (binary_rank o) l
      then recover (P (operand_form o) q) (λ b u. got (binary o a b) u) (got a (mark i ∷ q))
      else got a (mark i ∷ q)

  -- behind a, an operator of the rank and its right operand
  unfoldable pub continued : ℕ → FormulaTree → List Sign → Read FormulaTree
  continued l a (mark i ∷ q) = joined l a i q (binary_of i)
  continued l a ts = got a ts

  unfoldable pub ranked : ℕ → List Sign → Read FormulaTree
  ranked zero ts = term ts
  ranked (suc l) ts = bind (ranked l ts) (continued (suc l))

  abbrev pub formula_at : Reserved → List Sign → Option Start → Read FormulaTree
  formula_at w q (Some (start.Quantifier k)) = quantifying k q
  formula_at w q _ = ranked 4 (reserved w ∷ q)

  unfoldable pub formula : List Sign → Read FormulaTree
  formula (reserved w ∷ q) = formula_at w q (start_of w)
  formula ts = ranked 4 ts

  abbrev pub time_at : Option Start → List Sign → Read FormulaTree
  time_at (Some (start.Constant Init)) q = got (constant Init) q
  time_at (Some (start.Unary Pred)) q = alternative (call Pred) q
  time_at _ q = none

  unfoldable pub time : List Sign → Read FormulaTree
  time (word w ∷ q) = action w q
  time (reserved w ∷ q) = time_at (start_of w) q
  time _ = none

  unfoldable pub any : Form → List Sign → Read FormulaTree
  any form.Time ts = time ts
  any form.Term ts = ranked 0 ts
  any form.Atom ts = ranked 1 ts
  any form.Conj ts = ranked 2 ts
  any form.Disj ts = ranked 3 ts
  any form.Formula ts = formula ts

-- a tree of the form, with at most so many nodes around each place that is read
unfoldable pub parse : ℕ → Form → List Sign → Read FormulaTree
parse zero f ts = deep
parse (suc d) f ts = any (parse d) f ts
