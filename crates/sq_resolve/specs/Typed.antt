-- Which term a tree has in a scope: one case for each form, apart from any order in which it is
-- walked.
use Rattle.std.specs.Prelude.{◌≡◌, ℕ, zero, suc, List, [], ◌∷◌, ◌++◌, Some, true, length}
use Rattle.sq_base.specs.declared.sort.Sort.{Sort}
use Rattle.sq_base.specs.declared.sort.Sort.TheVariants.{Message, Boolean, Index, Timestamp}
use Rattle.sq_ast.specs.declared.formula.Binary.TheVariants.{Implies, Or, And, Equal, NotEqual}
use Rattle.sq_ast.specs.declared.formula.Binary.TheVariants.{LessEqual, Less}
use Rattle.sq_ast.specs.declared.formula.Constant.TheVariants.{Init}
use Rattle.sq_ast.specs.declared.formula.Unary.TheVariants.{Not, Fst, Snd, OfBool, Happens, Pred}
use Rattle.sq_ast.specs.Tree.{FormulaTree, quantified, binary, group, pair, constant, conditional}
use Rattle.sq_ast.specs.Tree.{find, diff, unary, value, name, apply, FormulaTrees, none, more}
use Rattle.sq_term.specs.declared.term.Idx.{Idx}
use Rattle.sq_term.specs.Formulas as formula
use Rattle.sq_term.specs.Syntax as t
use Rattle.sq_term.specs.Syntax.{TsTree, TermTree, TermTrees, nil, cons}
use Rattle.sq_typing.specs.Typing.{macro_sort}
use Rattle.sq_resolve.specs.declared.head.Head.{Head}
use Rattle.sq_resolve.specs.Scopes.{Variable, Context, meaning, head_arity}
use Rattle.sq_resolve.specs.Resolved.{as_index, Moment, moment, instance, as_moment, Value}
use Rattle.sq_resolve.specs.Resolved.{schema_variable, name_symbol, function, as_value, macro_of}
use Rattle.sq_resolve.specs.Resolved.{own_sort, count_trees, quantify, group_variables, variables}
use Rattle.sq_resolve.specs.Resolved.{bind_no_message, before, constant_kind, constant_sort}
use Rattle.sq_resolve.specs.Resolved.{function_term}

-- the identifier means h, which takes n arguments
abbrev pub Means : Context → List Variable → List ℕ → ℕ → Head → Type 0
Means c bs x n h = (meaning c bs x ≡ Some h) × (head_arity h ≡ n)

-- Two parts with their terms, and what is made of them. R and S say which terms the parts have.
abbrev pub OfTwo : {A B C : Type 0} → (A → Type 0) → (B → Type 0) → (A → B → C) → C → Type 0
OfTwo {A} {B} R S make u = (v : A) × ((w : B) × (R v × S w × (u ≡ make v w)))

abbrev pub OfOne : {A C : Type 0} → (A → Type 0) → (A → C) → C → Type 0
OfOne {A} R make u = (v : A) × (R v × (u ≡ make v))

abbrev pub OfThree : (TermTree → Type 0) → (TermTree → Type 0) → (TermTree → Type 0)
    → (TermTree → TermTree → TermTree → TermTree) → TermTree → Type 0
OfThree R S T make u =
    (v : TermTree) × ((w : TermTree) × ((x : TermTree) × (R v × S w × T x × (u ≡ make v w x))))

-- an index: a variable of that sort, in parentheses or not
abbrev pub IsIndex : Context → List Variable → FormulaTree → Idx → Type 0
IsIndex c bs (group a) i = IsIndex c bs a i
IsIndex c bs (name x) i = (h : Head) × (Means c bs x 0 h × (as_index h ≡ Some i))
IsIndex c bs (apply x xs) i = (h : Head) × (Means c bs x (count_trees xs) h × (as_index h ≡ Some i))
IsIndex c bs _ i = ⊥

abbrev pub AreIndices : Context → List Variable → FormulaTrees → List Idx → Type 0
AreIndices c bs none is = is ≡ []
AreIndices c bs (more a xs) is = OfTwo (IsIndex c bs a) (AreIndices c bs xs) (λ i js. i ∷ js) is

-- what an identifier of a timestamp stands for with these arguments
abbrev pub IsMoment : Context → List Variable → FormulaTrees → Moment → TsTree → Type 0
IsMoment c bs xs (moment v) u = u ≡ v
IsMoment c bs xs (instance a) u = OfOne (AreIndices c bs xs) (t.action a) u

-- a timestamp: `init`, the one before another, a variable of that sort, or an action at indices
abbrev pub IsTime : Context → List Variable → FormulaTree → TsTree → Type 0
IsTime c bs (group a) u = IsTime c bs a u
IsTime c bs (constant Init) u = u ≡ t.init
IsTime c bs (unary Pred a) u = OfOne (IsTime c bs a) t.pred u
IsTime c bs (name x) u =
    (h : Head)
    × ((m : Moment) × (Means c bs x 0 h × (as_moment h ≡ Some m) × IsMoment c bs none m u))
IsTime c bs (apply x xs) u =
    (h : Head)
    × ((m : Moment)
    × (Means c bs x (count_trees xs) h × (as_moment h ≡ Some m) × IsMoment c bs xs m u))
IsTime c bs _ u = ⊥

-- an equation, by the own sort of its left side: of indices, of timestamps, or of messages
abbrev pub IsEquation : Sort → Type 0 → Type 0 → Type 0 → Type 0
IsEquation Index of_indices of_times of_messages = of_indices
IsEquation Timestamp of_indices of_times of_messages = of_times
IsEquation s of_indices of_times of_messages = of_messages

-- the indices of a name, or the indices of a function and then its messages
abbrev pub HasArguments : Value → (List Idx → Type 0) → (ℕ → List Idx × TermTrees → Type 0)
    → TermTree → Type 0
HasArguments (schema_variable k) R S u = u ≡ t.schema k
HasArguments (name_symbol n) R S u = OfOne R (t.name n) u
HasArguments (function f i) R S u = OfOne (S i) (function_term f) u

abbrev mutual
  -- the tree has the term at the sort, behind the binders bs
  pub IsTerm : Context → List Variable → Sort → FormulaTree → TermTree → Type 0
  IsTerm c bs s (quantified q gs a) u =
      (s ≡ Boolean) × (bind_no_message gs ≡ true) × OfOne (IsTerm c (bs ++ variables gs) Boolean a)
      (quantify q (variables gs)) u
  IsTerm c bs s (binary Implies a b) u =
      (s ≡ Boolean) × OfTwo (IsTerm c bs Boolean a) (IsTerm c bs Boolean b) formula.implies u
  IsTerm c bs s (binary Or a b) u =
      (s ≡ Boolean) × OfTwo (IsTerm c bs Boolean a) (IsTerm c bs Boolean b) formula.either u
  IsTerm c bs s (binary And a b) u =
      (s ≡ Boolean) × OfTwo (IsTerm c bs Boolean a) (IsTerm c bs Boolean b) formula.both u
  IsTerm c bs s (binary Equal a b) u =
      (s ≡ Boolean) × IsEquation (own_sort c bs a)
      (OfTwo (IsIndex c bs a) (IsIndex c bs b) t.idx_eq u)
      (OfTwo (IsTime c bs a) (IsTime c bs b) t.ts_eq u)
      (OfTwo (IsTerm c bs Message a) (IsTerm c bs Message b) formula.equal u)
  IsTerm c bs s (binary NotEqual a b) u =
      OfOne (λ e. (s ≡ Boolean) × IsEquation (own_sort c bs a)
      (OfTwo (IsIndex c bs a) (IsIndex c bs b) t.idx_eq e)
      (OfTwo (IsTime c bs a) (IsTime c bs b) t.ts_eq e)
      (OfTwo (IsTerm c bs Message a) (IsTerm c bs Message b) formula.equal e)) formula.negation u
  IsTerm c bs s (binary LessEqual a b) u =
      (s ≡ Boolean) × OfTwo (IsTime c bs a) (IsTime c bs b) t.le u
  IsTerm c bs s (binary Less a b) u = (s ≡ Boolean) × OfTwo (IsTime c bs a) (IsTime c bs b) before u
  IsTerm c bs s (group a) u = IsTerm c bs s a u
  IsTerm c bs s (pair a b) u =
      (s ≡ Message) × OfTwo (IsTerm c bs Message a) (IsTerm c bs Message b) formula.pair u
  IsTerm c bs s (constant k) u = (s ≡ constant_sort k) × (u ≡ formula.constant (constant_kind k))
  IsTerm c bs s (conditional a b d) u =
      (s ≡ Message) × OfThree (IsTerm c bs Boolean a) (IsTerm c bs Message b)
      (IsTerm c bs Message d) formula.conditional u
  IsTerm c bs s (find ns a b d) u =
      (s ≡ Message) × OfThree (IsTerm c (bs ++ group_variables Index ns) Boolean a)
      (IsTerm c (bs ++ group_variables Index ns) Message b) (IsTerm c bs Message d)
      (t.find (length ns)) u
  IsTerm c bs s (diff a b) u = OfTwo (IsTerm c bs s a) (IsTerm c bs s b) t.diff u
  IsTerm c bs s (unary Not a) u = (s ≡ Boolean) × OfOne (IsTerm c bs Boolean a) formula.negation u
  IsTerm c bs s (unary Fst a) u = (s ≡ Message) × OfOne (IsTerm c bs Message a) formula.first u
  IsTerm c bs s (unary Snd a) u = (s ≡ Message) × OfOne (IsTerm c bs Message a) formula.second u
  IsTerm c bs s (unary OfBool a) u = (s ≡ Message) × OfOne (IsTerm c bs Boolean a) formula.of_bool u
  IsTerm c bs s (unary Happens a) u = (s ≡ Boolean) × OfOne (IsTime c bs a) t.happens u
  IsTerm c bs s (unary Pred a) u = ⊥
  IsTerm c bs s (value w a) u =
      (s ≡ macro_sort (macro_of w)) × OfOne (IsTime c bs a) (t.macro (macro_of w)) u
  IsTerm c bs s (name x) u =
      (h : Head)
      × ((v : Value)
      × (Means c bs x 0 h × (as_value s h ≡ Some v)
      × HasArguments v (AreIndices c bs none) (λ i r. r ≡ ([], nil)) u))
  IsTerm c bs s (apply x xs) u =
      (h : Head)
      × ((v : Value)
      × (Means c bs x (count_trees xs) h × (as_value s h ≡ Some v)
      × HasArguments v (AreIndices c bs xs) (λ i. AreArguments c bs i xs) u))

  -- the first i trees are indices and the others messages
  pub AreArguments : Context → List Variable → ℕ → FormulaTrees → List Idx × TermTrees → Type 0
  AreArguments c bs i none r = r ≡ ([], nil)
  AreArguments c bs zero (more a xs) r =
      OfTwo (IsTerm c bs Message a) (AreMessages c bs xs) (λ u us. ([], cons u us)) r
  AreArguments c bs (suc i) (more a xs) r =
      OfTwo (IsIndex c bs a) (AreArguments c bs i xs) (λ j s. (j ∷ s.0, s.1)) r

  pub AreMessages : Context → List Variable → FormulaTrees → TermTrees → Type 0
  AreMessages c bs none us = us ≡ nil
  AreMessages c bs (more a xs) us = OfTwo (IsTerm c bs Message a) (AreMessages c bs xs) cons us
