-- The term of a tree in a scope, or why there is none: one equation for each form.
use Rattle.std.specs.Prelude.{ℕ, zero, suc, ◌+◌, List, [], ◌∷◌, ◌++◌, map, Option, Some, None}
use Rattle.std.specs.Prelude.{Result, Ok, Err, Bool, true, if◌then◌else◌, ◌&&◌, ◌==◌, length}
use Rattle.sq_base.specs.declared.sort.Sort.{Sort}
use Rattle.sq_base.specs.declared.sort.Sort.TheVariants.{Message, Boolean, Index, Timestamp}
use Rattle.sq_ast.specs.declared.formula.Quantifier.{Quantifier}
use Rattle.sq_ast.specs.declared.formula.Quantifier.TheVariants.{Forall, Exists}
use Rattle.sq_ast.specs.declared.formula.Binary.{Binary}
use Rattle.sq_ast.specs.declared.formula.Binary.TheVariants.{Implies, Or, Equal, NotEqual}
use Rattle.sq_ast.specs.declared.formula.Binary.TheVariants.{LessEqual, Less}
use Rattle.sq_ast.specs.declared.formula.Constant.{Constant}
use Rattle.sq_ast.specs.declared.formula.Constant.TheVariants.{True, False, Empty, Init}
use Rattle.sq_ast.specs.declared.formula.Unary.{Unary}
use Rattle.sq_ast.specs.declared.formula.Unary.TheVariants.{Not, Fst, Snd, OfBool, Happens, Pred}
use Rattle.sq_ast.specs.declared.formula.MacroWord.{MacroWord}
use Rattle.sq_ast.specs.declared.formula.MacroWord.TheVariants.{Input, Output, Cond, Exec, Frame}
use Rattle.sq_ast.specs.Tree.{Group, FormulaTree, quantified, binary, group, pair, constant}
use Rattle.sq_ast.specs.Tree.{conditional, find, diff, unary, value, name, apply, FormulaTrees}
use Rattle.sq_ast.specs.Tree.{none, more}
use Rattle.sq_term.specs.declared.term.Idx.{Idx}
use Rattle.sq_term.specs.declared.term.Idx.TheVariants as idx
use Rattle.sq_term.specs.declared.term.Macro.{Macro}
use Rattle.sq_term.specs.declared.term.Macro.TheVariants as m
use Rattle.sq_term.specs.Formulas as formula
use Rattle.sq_term.specs.Symbols as kind
use Rattle.sq_term.specs.Symbols.{Kind, kind_of}
use Rattle.sq_term.specs.Syntax as t
use Rattle.sq_term.specs.Syntax.{TsTree, TermTree, TermTrees, nil, cons}
use Rattle.sq_term.specs.Pure.{is_binder_sort}
use Rattle.sq_typing.specs.Typing.{macro_sort}
use Rattle.sq_term.specs.TreeEquality.{is_same_sort}
use Rattle.sq_resolve.specs.declared.fault.ResolveFault.{ResolveFault}
use Rattle.sq_resolve.specs.declared.fault.ResolveFault.TheVariants.{Unknown, Arity, SortClash}
use Rattle.sq_resolve.specs.declared.fault.ResolveFault.TheVariants.{MessageQuantifier}
use Rattle.sq_resolve.specs.declared.head.Head.{Head}
use Rattle.sq_resolve.specs.declared.head.Head.TheVariants as head
use Rattle.sq_resolve.specs.Scopes.{Variable, Context, meaning, head_sort, head_arity}

-- what stands at a place, or the fault of the first place in it that has one
abbrev pub Found : Type 0 → Type 0
Found A = Result A ResolveFault

abbrev pub mapped : {A B : Type 0} → (A → B) → Found A → Found B
mapped f (Ok a) = Ok (f a)
mapped f (Err e) = Err e

-- the first part's fault stands before the second's
abbrev pub both : {A B C : Type 0} → (A → B → C) → Found A → Found B → Found C
both f (Ok a) r = mapped (f a) r
both f (Err e) r = Err e

abbrev pub three : {A B C D : Type 0} → (A → B → C → D) → Found A → Found B → Found C → Found D
three f (Ok a) r s = both (f a) r s
three f (Err e) r s = Err e

-- a form of the sort `own` where `want` is wanted
abbrev pub expect : {A : Type 0} → Sort → Sort → Found A → Found A
expect want own r = if is_same_sort want own then r else Err (SortClash want own)

-- ---- identifiers

-- an identifier with n arguments
abbrev pub known : List ℕ → ℕ → Option Head → Found Head
known x n None = Err (Unknown x)
known x n (Some h) = if head_arity h == n then Ok h else Err (Arity x (head_arity h) n)

abbrev pub read_as : {A : Type 0} → Sort → Head → Option A → Found A
read_as want h (Some a) = Ok a
read_as want h None = Err (SortClash want (head_sort h))

-- what `reading` makes of it where it has the wanted sort
abbrev pub chosen : {A : Type 0} → (Head → Option A) → Sort → Found Head → Found A
chosen reading want (Ok h) = read_as want h (reading h)
chosen reading want (Err e) = Err e

abbrev pub judged : {A : Type 0} → (Head → Option A) → Sort → List ℕ → ℕ → Option Head → Found A
judged reading want x n h = chosen reading want (known x n h)

abbrev pub as_index : Head → Option Idx
as_index (head.Bound k Index) = Some (idx.Bound k)
as_index (head.Free k Index) = Some (idx.Free k)
as_index h = None

-- a timestamp variable, or an action that waits for its indices
pub data Moment : Type 0 where
  moment : TsTree → Moment
  instance : ℕ → Moment

abbrev pub as_moment : Head → Option Moment
as_moment (head.Bound k Timestamp) = Some (moment (t.bound k))
as_moment (head.Free k Timestamp) = Some (moment (t.free k))
as_moment (head.Action a n) = Some (instance a)
as_moment h = None

-- what gives a message or a Boolean
pub data Value : Type 0 where
  schema_variable : ℕ → Value
  name_symbol : ℕ → Value
  function : Kind → ℕ → Value

abbrev pub as_value : Sort → Head → Option Value
as_value want (head.Schema k s) =
    if is_same_sort want s then Some (schema_variable k) else None
as_value want (head.Name n k) =
    if is_same_sort want Message then Some (name_symbol n) else None
as_value want (head.Function f i n s) =
    if is_same_sort want s then Some (function (kind_of f) i) else None
as_value want h = None

-- ---- the own sort of a tree, read off its outermost form

abbrev pub binary_sort : Binary → Sort
binary_sort o = Boolean

abbrev pub constant_sort : Constant → Sort
constant_sort True = Boolean
constant_sort False = Boolean
constant_sort Empty = Message
constant_sort Init = Timestamp

abbrev pub unary_sort : Unary → Sort
unary_sort Not = Boolean
unary_sort Fst = Message
unary_sort Snd = Message
unary_sort OfBool = Message
unary_sort Happens = Boolean
unary_sort Pred = Timestamp

abbrev pub macro_of : MacroWord → Macro
macro_of Input = m.Input
macro_of Output = m.Output
macro_of Cond = m.Cond
macro_of Exec = m.Exec
macro_of Frame = m.Frame

-- a difference is Boolean where its first part is, and a message otherwise
abbrev pub value_sort : Sort → Sort
value_sort Boolean = Boolean
value_sort s = Message

-- the sort at which the term of a `let` and an item are wanted, by their own sort
abbrev pub wanted_by_itself : Sort → Sort
wanted_by_itself s = value_sort s

abbrev pub sort_of_meaning : Option Head → Sort
sort_of_meaning None = Message
sort_of_meaning (Some h) = head_sort h

abbrev pub own_sort : Context → List Variable → FormulaTree → Sort
own_sort c bs (quantified q gs a) = Boolean
own_sort c bs (binary o a b) = Boolean
own_sort c bs (group a) = own_sort c bs a
own_sort c bs (pair a b) = Message
own_sort c bs (constant k) = constant_sort k
own_sort c bs (conditional a b d) = Message
own_sort c bs (find ns a b d) = Message
own_sort c bs (diff a b) = value_sort (own_sort c bs a)
own_sort c bs (unary u a) = unary_sort u
own_sort c bs (value w a) = macro_sort (macro_of w)
own_sort c bs (name x) = sort_of_meaning (meaning c bs x)
own_sort c bs (apply x xs) = sort_of_meaning (meaning c bs x)

abbrev pub count_trees : FormulaTrees → ℕ
count_trees none = 0
count_trees (more a xs) = count_trees xs + 1

-- ---- indices and timestamps

abbrev pub index_of : Context → List Variable → FormulaTree → Found Idx
index_of c bs (group a) = index_of c bs a
index_of c bs (name x) = judged as_index Index x 0 (meaning c bs x)
index_of c bs (apply x xs) = judged as_index Index x (count_trees xs) (meaning c bs x)
index_of c bs a = Err (SortClash Index (own_sort c bs a))

abbrev pub indices_of : Context → List Variable → FormulaTrees → Found (List Idx)
indices_of c bs none = Ok []
indices_of c bs (more a xs) = both (λ i is. i ∷ is) (index_of c bs a) (indices_of c bs xs)

abbrev pub at_indices : Found Moment → Found (List Idx) → Found TsTree
at_indices (Err e) is = Err e
at_indices (Ok (moment u)) is = Ok u
at_indices (Ok (instance a)) is = mapped (t.action a) is

abbrev pub time_of : Context → List Variable → FormulaTree → Found TsTree
time_of c bs (group a) = time_of c bs a
time_of c bs (constant Init) = Ok t.init
time_of c bs (unary Pred a) = mapped t.pred (time_of c bs a)
time_of c bs (name x) = at_indices (judged as_moment Timestamp x 0 (meaning c bs x)) (Ok [])
time_of c bs (apply x xs) =
    at_indices (judged as_moment Timestamp x (count_trees xs) (meaning c bs x)) (indices_of c bs xs)
time_of c bs a = Err (SortClash Timestamp (own_sort c bs a))

-- ---- terms

-- `T < S` stands for `T <= S && not(T = S)`
abbrev pub before : TsTree → TsTree → TermTree
before u v = formula.both (t.le u v) (formula.negation (t.ts_eq u v))

abbrev pub quantifier : Quantifier → Sort → TermTree → TermTree
quantifier Forall s a = t.all s a
quantifier Exists s a = t.some s a

-- one quantifier for each variable, the first one outermost
abbrev pub quantify : Quantifier → List Variable → TermTree → TermTree
quantify q [] a = a
quantify q (v ∷ vs) a = quantifier q v.1 (quantify q vs a)

abbrev pub group_variables : Sort → List (List ℕ) → List Variable
group_variables s ns = map (λ n. (n, s)) ns

abbrev pub variables : List Group → List Variable
variables [] = []
variables (g ∷ gs) = group_variables g.1 g.0 ++ variables gs

abbrev pub bind_no_message : List Group → Bool
bind_no_message [] = true
bind_no_message (g ∷ gs) = is_binder_sort g.1 && bind_no_message gs

-- a quantifier of these groups
abbrev pub with_binders : {A : Type 0} → List Group → Found A → Found A
with_binders gs r = if bind_no_message gs then r else Err MessageQuantifier

-- an equation compares indices, timestamps or messages, by the own sort of its left side
abbrev pub by_sort : {A : Type 0} → Sort → A → A → A → A
by_sort Index i u a = i
by_sort Timestamp i u a = u
by_sort s i u a = a

abbrev pub connective : Binary → Kind
connective Implies = kind.implication
connective Or = kind.disjunction
connective o = kind.conjunction

abbrev pub constant_kind : Constant → Kind
constant_kind True = kind.truth
constant_kind False = kind.falsity
constant_kind k = kind.empty

abbrev pub function_term : Kind → List Idx × TermTrees → TermTree
function_term f r = t.fun f r.0 r.1

-- what an identifier makes of its arguments: of all of them as indices, or of a function's first i
-- as indices and the others as messages
abbrev pub with_arguments : Found Value → Found (List Idx) → (ℕ → Found (List Idx × TermTrees))
    → Found TermTree
with_arguments (Err e) is args = Err e
with_arguments (Ok (schema_variable k)) is args = Ok (t.schema k)
with_arguments (Ok (name_symbol n)) is args = mapped (t.name n) is
with_arguments (Ok (function f i)) is args = mapped (function_term f) (args i)

abbrev mutual
  pub term_of : Context → List Variable → Sort → FormulaTree → Found TermTree
  term_of c bs want (quantified q gs a) =
      expect want Boolean
      (with_binders gs
      (mapped (quantify q (variables gs)) (term_of c (bs ++ variables gs) Boolean a)))
  term_of c bs want (binary Equal a b) =
      expect want Boolean (by_sort (own_sort c bs a)
      (both t.idx_eq (index_of c bs a) (index_of c bs b))
      (both t.ts_eq (time_of c bs a) (time_of c bs b))
      (both formula.equal (term_of c bs Message a) (term_of c bs Message b)))
  term_of c bs want (binary NotEqual a b) =
      mapped formula.negation (expect want Boolean (by_sort (own_sort c bs a)
      (both t.idx_eq (index_of c bs a) (index_of c bs b))
      (both t.ts_eq (time_of c bs a) (time_of c bs b))
      (both formula.equal (term_of c bs Message a) (term_of c bs Message b))))
  term_of c bs want (binary LessEqual a b) =
      expect want Boolean (both t.le (time_of c bs a) (time_of c bs b))
  term_of c bs want (binary Less a b) =
      expect want Boolean (both before (time_of c bs a) (time_of c bs b))
  term_of c bs want (binary o a b) =
      expect want Boolean
      (both (formula.binary (connective o)) (term_of c bs Boolean a) (term_of c bs Boolean b))
  term_of c bs want (group a) = term_of c bs want a
  term_of c bs want (pair a b) =
      expect want Message (both formula.pair (term_of c bs Message a) (term_of c bs Message b))
  term_of c bs want (constant k) =
      expect want (constant_sort k) (Ok (formula.constant (constant_kind k)))
  term_of c bs want (conditional a b d) =
      expect want Message
      (three formula.conditional (term_of c bs Boolean a) (term_of c bs Message b)
      (term_of c bs Message d))
  term_of c bs want (find ns a b d) =
      expect want Message
      (three (t.find (length ns)) (term_of c (bs ++ group_variables Index ns) Boolean a)
      (term_of c (bs ++ group_variables Index ns) Message b) (term_of c bs Message d))
  term_of c bs want (diff a b) = both t.diff (term_of c bs want a) (term_of c bs want b)
  term_of c bs want (unary Not a) =
      expect want Boolean (mapped formula.negation (term_of c bs Boolean a))
  term_of c bs want (unary Fst a) =
      expect want Message (mapped formula.first (term_of c bs Message a))
  term_of c bs want (unary Snd a) =
      expect want Message (mapped formula.second (term_of c bs Message a))
  term_of c bs want (unary OfBool a) =
      expect want Message (mapped formula.of_bool (term_of c bs Boolean a))
  term_of c bs want (unary Happens a) = expect want Boolean (mapped t.happens (time_of c bs a))
  term_of c bs want (unary Pred a) = Err (SortClash want Timestamp)
  term_of c bs want (value w a) =
      expect want (macro_sort (macro_of w)) (mapped (t.macro (macro_of w)) (time_of c bs a))
  term_of c bs want (name x) =
      with_arguments (judged (as_value want) want x 0 (meaning c bs x)) (Ok []) (λ i. Ok ([], nil))
  term_of c bs want (apply x xs) =
      with_arguments (judged (as_value want) want x (count_trees xs) (meaning c bs x))
      (indices_of c bs xs) (λ i. arguments_of c bs i xs)

  pub terms_of : Context → List Variable → FormulaTrees → Found TermTrees
  terms_of c bs none = Ok nil
  terms_of c bs (more a xs) = both cons (term_of c bs Message a) (terms_of c bs xs)

  -- the first i arguments as indices, the others as messages
  pub arguments_of : Context → List Variable → ℕ → FormulaTrees → Found (List Idx × TermTrees)
  arguments_of c bs i none = Ok ([], nil)
  arguments_of c bs zero (more a xs) =
      mapped (λ ts. ([], ts)) (both cons (term_of c bs Message a) (terms_of c bs xs))
  arguments_of c bs (suc i) (more a xs) =
      both (λ j r. (j ∷ r.0, r.1)) (index_of c bs a) (arguments_of c bs i xs)

-- an equation of these two trees
abbrev pub equation : Context → List Variable → Sort → FormulaTree → FormulaTree → Found TermTree
equation c bs want a b =
    expect want Boolean (by_sort (own_sort c bs a)
    (both t.idx_eq (index_of c bs a) (index_of c bs b))
    (both t.ts_eq (time_of c bs a) (time_of c bs b))
    (both formula.equal (term_of c bs Message a) (term_of c bs Message b)))

-- an identifier with these n arguments
abbrev pub application : Context → List Variable → Sort → List ℕ → ℕ → FormulaTrees → Found TermTree
application c bs want x n xs =
    with_arguments (judged (as_value want) want x n (meaning c bs x)) (indices_of c bs xs)
    (λ i. arguments_of c bs i xs)
