-- What a formula that does not speak of time becomes: a term with placeholders that holds no
-- timestamp and no macro.
use Rattle.std.proofs.Common.{◌≡◌, ℕ, zero, suc, ◌+◌, ◌<◌, ◌≤◌, List, [], ◌∷◌, ◌++◌, length, Bool}
use Rattle.std.proofs.Common.{true, false, if◌then◌else◌, Option, Some, None, Ok, Err, refl, sym}
use Rattle.std.proofs.Common.{arith, subst, slice_get, nat_eq, option_map}
use Rattle.std.specs.Prelude.{◌||◌}
use Rattle.std.specs.Str.{bytes_eq}
use Rattle.std.proofs.lemmas.Bool.{false≢true}
use Rattle.std.proofs.lemmas.Bool.Decides.{nat_tests}
use Rattle.std.proofs.lemmas.Option.{slice_get_past}
use Rattle.sq_base.specs.declared.sort.Sort.{Sort}
use Rattle.sq_base.specs.declared.sort.Sort.TheVariants.{Message, Boolean, Index, Timestamp}
use Rattle.sq_ast.specs.declared.formula.Quantifier.{Quantifier}
use Rattle.sq_ast.specs.declared.formula.Quantifier.TheVariants.{Forall, Exists}
use Rattle.sq_ast.specs.declared.formula.Binary.TheVariants.{Implies, Or, And, Equal, NotEqual}
use Rattle.sq_ast.specs.declared.formula.Binary.TheVariants.{LessEqual, Less}
use Rattle.sq_ast.specs.declared.formula.Constant.TheVariants.{True, False, Empty, Init}
use Rattle.sq_ast.specs.declared.formula.Unary.TheVariants.{Not, Fst, Snd, OfBool, Happens, Pred}
use Rattle.sq_ast.specs.Tree.{Group, FormulaTree, quantified, binary, group, pair, constant}
use Rattle.sq_ast.specs.Tree.{conditional, find, diff, unary, value, name, apply, FormulaTrees}
use Rattle.sq_ast.specs.Tree.{none, more}
use Rattle.sq_sym.specs.declared.symbol.Symbol.{Symbol}
use Rattle.sq_sym.specs.declared.symbol.Symbol.TheVariants as symbol
use Rattle.sq_sym.specs.Declarations.{found}
use Rattle.sq_term.specs.declared.signature.FunDecl.{FunDecl}
use Rattle.sq_term.specs.declared.term.Idx.{Idx}
use Rattle.sq_term.specs.Formulas as formula
use Rattle.sq_term.specs.Symbols as kind
use Rattle.sq_term.specs.Symbols.{Kind, kind_of}
use Rattle.sq_term.specs.Syntax as t
use Rattle.sq_term.specs.Syntax.{TsTree, TermTree, TermTrees, nil, cons}
use Rattle.sq_term.specs.TreeEquality.{is_same_sort}
use Rattle.sq_system.specs.Facts.{IsIndexOf, AreIndicesOf}
use Rattle.sq_resolve.specs.Stops.{bind_timestamp}
use Rattle.sq_elab.specs.Meanings.{Base, Visible, scope_of, or_falsity}
use Rattle.sq_resolve.specs.declared.fault.ResolveFault.TheVariants.{SortClash, Arity}
use Rattle.sq_resolve.specs.declared.fault.ResolveFault.TheVariants.{MessageQuantifier}
use Rattle.sq_resolve.specs.declared.head.Head.{Head}
use Rattle.sq_resolve.specs.declared.head.Head.TheVariants as head
use Rattle.sq_resolve.specs.declared.scope.Given.TheVariants as given
use Rattle.sq_resolve.specs.declared.scope.Given.{Given}
use Rattle.sq_resolve.specs.Scopes.{Variable, last_from, last_of, bound_head}
use Rattle.sq_resolve.specs.Scopes.{last_given, given_head, action_head, symbol_head, first_some}
use Rattle.sq_resolve.specs.Scopes.{meaning, head_arity}
use Rattle.sq_resolve.specs.Resolved.{Found, mapped, both, three, expect, read_as, chosen}
use Rattle.sq_resolve.specs.Resolved.{judged, as_index, Moment, as_moment, Value}
use Rattle.sq_resolve.specs.Resolved.{schema_variable, name_symbol, function, as_value, count_trees}
use Rattle.sq_resolve.specs.Resolved.{index_of, indices_of, at_indices, time_of, quantify}
use Rattle.sq_resolve.specs.Resolved.{group_variables, variables, bind_no_message, with_binders}
use Rattle.sq_resolve.specs.Resolved.{by_sort, own_sort, function_term, with_arguments, term_of}
use Rattle.sq_resolve.specs.Resolved.{terms_of, arguments_of, before, equation}
use Rattle.sq_resolve.specs.Resolved.{constant_sort, constant_kind}
use Rattle.sq_elab.proofs.Timeless.{IsTimeless, AreTimeless}

-- ---- terms with placeholders

-- placeholders are below v and free indices below n, and no timestamp stands in it
abbrev mutual
  pub IsHeld : ℕ → ℕ → TermTree → Type 0
  IsHeld v n (t.name m is) = AreIndicesOf n is
  IsHeld v n (t.fun f is ts) = AreIndicesOf n is × AreHeld v n ts
  IsHeld v n (t.macro r u) = ⊥
  IsHeld v n (t.schema m) = m < v
  IsHeld v n (t.diff a b) = IsHeld v n a × IsHeld v n b
  IsHeld v n (t.le a b) = ⊥
  IsHeld v n (t.ts_eq a b) = ⊥
  IsHeld v n (t.idx_eq i j) = IsIndexOf n i × IsIndexOf n j
  IsHeld v n (t.happens u) = ⊥
  IsHeld v n (t.all r a) = IsHeld v n a
  IsHeld v n (t.some r a) = IsHeld v n a
  IsHeld v n (t.find c a b d) = IsHeld v n a × IsHeld v n b × IsHeld v n d

  pub AreHeld : ℕ → ℕ → TermTrees → Type 0
  AreHeld v n nil = Unit {0}
  AreHeld v n (cons a ts) = IsHeld v n a × AreHeld v n ts

-- ---- what was found

abbrev pub IfFound : {A : Type 0} → (A → Type 0) → Found A → Type 0
IfFound P (Ok a) = P a
IfFound P (Err e) = Unit {0}

of_mapped : {A B : Type 0} (P : A → Type 0) (Q : B → Type 0) (f : A → B) (r : Found A) → IfFound P r
    → ((a : A) → P a → Q (f a)) → IfFound Q (mapped f r)
of_mapped P Q f (Ok a) h g = g a h
of_mapped P Q f (Err e) h g = tt

of_both : {A B C : Type 0} (P : A → Type 0) (Q : B → Type 0) (R : C → Type 0)
    (f : A → B → C) (r : Found A) (s : Found B) → IfFound P r → IfFound Q s
    → ((a : A) (b : B) → P a → Q b → R (f a b))
    → IfFound R (both f r s)
of_both P Q R f (Ok a) (Ok b) h k g = g a b h k
of_both P Q R f (Ok a) (Err e) h k g = tt
of_both P Q R f (Err e) s h k g = tt

of_three : {A B C D : Type 0} (P : A → Type 0) (Q : B → Type 0) (R : C → Type 0) (S : D → Type 0)
    (f : A → B → C → D) (r : Found A) (s : Found B) (u : Found C) → IfFound P r
    → IfFound Q s → IfFound R u
    → ((a : A) (b : B) (c : C) → P a → Q b → R c → S (f a b c)) → IfFound S (three f r s u)
of_three P Q R S f (Ok a) (Ok b) (Ok c) h k l g = g a b c h k l
of_three P Q R S f (Ok a) (Ok b) (Err e) h k l g = tt
of_three P Q R S f (Ok a) (Err e) u h k l g = tt
of_three P Q R S f (Err e) s u h k l g = tt

refused_both : {A B C : Type 0} (R : C → Type 0) (f : A → B → C) (r : Found A) (s : Found B)
    → IfFound (λ a. ⊥) r → IfFound R (both f r s)
refused_both R f (Ok a) s h = absurd h
refused_both R f (Err e) s h = tt

of_expect : {A : Type 0} (P : A → Type 0) (want own : Sort) (r : Found A) → IfFound P r
    → IfFound P (expect want own r)
of_expect P want own r h = by (is_same_sort want own)
  where
    by : (c : Bool) → IfFound P (if c then r else (Err (SortClash want own)))
    by true = h
    by false = tt

of_binders : {A : Type 0} (P : A → Type 0) (gs : List Group) (r : Found A) → IfFound P r
    → IfFound P (with_binders gs r)
of_binders P gs r h = by (bind_no_message gs)
  where
    by : (c : Bool) → IfFound P (if c then r else (Err MessageQuantifier))
    by true = h
    by false = tt

of_sort : {A : Type 0} (P : A → Type 0) (s : Sort) (i u a : Found A) → IfFound P i → IfFound P u
    → IfFound P a → IfFound P (by_sort s i u a)
of_sort P Index i u a h k l = h
of_sort P Timestamp i u a h k l = k
of_sort P Message i u a h k l = l
of_sort P Boolean i u a h k l = l

-- ---- heads

abbrev IsNoTime : Sort → Type 0
IsNoTime s = is_same_sort s Timestamp ≡ false

-- v placeholders and n indices are there
abbrev pub IsFitHead : ℕ → ℕ → Head → Type 0
IsFitHead v n (head.Bound k s) = IsNoTime s
IsFitHead v n (head.Free k Index) = k < n
IsFitHead v n (head.Free k s) = ⊥
IsFitHead v n (head.Schema k s) = k < v
IsFitHead v n (head.Name a k) = Unit {0}
IsFitHead v n (head.Function f i m s) = Unit {0}
IsFitHead v n (head.Action a k) = ⊥

abbrev pub IsFitMeaning : ℕ → ℕ → Option Head → Type 0
IsFitMeaning v n None = Unit {0}
IsFitMeaning v n (Some h) = IsFitHead v n h

abbrev pub AreNoTimes : List Variable → Type 0
AreNoTimes [] = Unit {0}
AreNoTimes (x ∷ xs) = IsNoTime x.1 × AreNoTimes xs

abbrev IsNoTimeOr : Option (ℕ × Sort) → Type 0
IsNoTimeOr None = Unit {0}
IsNoTimeOr (Some r) = IsNoTime r.1

last-no-time : (k : ℕ) (best : Option (ℕ × Sort)) (x : List ℕ) (vs : List Variable)
    → IsNoTimeOr best → AreNoTimes vs → IsNoTimeOr (last_from k best x vs)
last-no-time k best x [] h g = h
last-no-time k best x (v ∷ vs) h g =
    last-no-time (k + 1) (if bytes_eq x v.0 then Some (k, v.1) else best) x vs (by (bytes_eq x v.0))
    g.1
  where
    by : (c : Bool) → IsNoTimeOr (if c then Some (k, v.1) else best)
    by true = g.0
    by false = h

bound-fits : (v n m : ℕ) (o : Option (ℕ × Sort)) → IsNoTimeOr o
    → IsFitMeaning v n (bound_head m o)
bound-fits v n m None h = tt
bound-fits v n m (Some r) h = h

first-fits : (v n : ℕ) (o p : Option Head) → IsFitMeaning v n o → IsFitMeaning v n p
    → IsFitMeaning v n (first_some o p)
first-fits v n None p h g = g
first-fits v n (Some a) p h g = h

-- what identifiers are given to mean
abbrev pub IsGivenFit : ℕ → ℕ → Given → Type 0
IsGivenFit v n (given.Index k) = k < n
IsGivenFit v n (given.Value k s) = k < v

abbrev pub AreGivenFit : ℕ → ℕ → Visible → Type 0
AreGivenFit v n [] = Unit {0}
AreGivenFit v n (g ∷ gs) = IsGivenFit v n g.1 × AreGivenFit v n gs

abbrev pub IsGivenFitOr : ℕ → ℕ → Option Given → Type 0
IsGivenFitOr v n None = Unit {0}
IsGivenFitOr v n (Some g) = IsGivenFit v n g

pub last-given-fits : (v n : ℕ) (best : Option Given) (x : List ℕ) (gs : Visible)
    → IsGivenFitOr v n best → AreGivenFit v n gs → IsGivenFitOr v n (last_given best x gs)
last-given-fits v n best x [] h g = h
last-given-fits v n best x (y ∷ gs) h g =
    last-given-fits v n (if bytes_eq x y.0 then Some y.1 else best) x gs (by (bytes_eq x y.0)) g.1
  where
    by : (c : Bool) → IsGivenFitOr v n (if c then Some y.1 else best)
    by true = g.0
    by false = h

given-fits : (v n : ℕ) (o : Option Given) → IsGivenFitOr v n o → IsFitMeaning v n (given_head o)
given-fits v n None h = tt
given-fits v n (Some (given.Index k)) h = h
given-fits v n (Some (given.Value k s)) h = h

name-fits : (v n a : ℕ) (o : Option ℕ)
    → IsFitMeaning v n (option_map (λ k. head.Name a k) o)
name-fits v n a None = tt
name-fits v n a (Some k) = tt

module _ (b : Base) (seen : Visible) where
  symbol-fits : (v n : ℕ) (o : Option (ℕ × Symbol))
      → IsFitMeaning v n (symbol_head (scope_of b seen) o)
  symbol-fits v n None = tt
  symbol-fits v n (Some (at, symbol.Name a)) = name-fits v n a (slice_get b.names a)
  symbol-fits v n (Some (at, symbol.Fun f)) = by (slice_get b.funs f)
    where
      by : (o : Option FunDecl)
          → IsFitMeaning v n (option_map (λ d. head.Function f d.idx d.args d.result) o)
      by None = tt
      by (Some d) = tt
  symbol-fits v n (Some (at, symbol.Action s a)) = by (nat_eq s (length b.systems)) refl
    where
      by : (c : Bool) → nat_eq s (length b.systems) ≡ c
          → IsFitMeaning v n (if c then action_head a (slice_get b.systems s) else None)
      by true e =
          let past : length b.systems ≤ s = grind (arith, nat_tests) in
          subst (λ o. IsFitMeaning v n (action_head a o)) (sym (slice_get_past b.systems s past)) tt
      by false e = tt
  symbol-fits v n (Some (at, symbol.Channel)) = tt
  symbol-fits v n (Some (at, symbol.Process k)) = tt
  symbol-fits v n (Some (at, symbol.System k)) = tt
  symbol-fits v n (Some (at, symbol.Statement k)) = tt

  pub meaning-fits : (v n : ℕ) (bs : List Variable) (x : List ℕ) → AreGivenFit v n seen
      → AreNoTimes bs → IsFitMeaning v n (meaning (scope_of b seen) bs x)
  meaning-fits v n bs x g h =
      let o = symbol_head (scope_of b seen) (found x b.table) in
      first-fits v n (bound_head (length bs) (last_of x bs))
      (first_some (given_head (last_given None x seen)) o)
      (bound-fits v n (length bs) (last_of x bs) (last-no-time 0 None x bs tt h))
      (first-fits v n (given_head (last_given None x seen)) o
      (given-fits v n (last_given None x seen) (last-given-fits v n None x seen tt g))
      (symbol-fits v n (found x b.table)))

-- ---- identifiers

abbrev IsGot : {A : Type 0} → (A → Type 0) → Option A → Type 0
IsGot P None = Unit {0}
IsGot P (Some a) = P a

of_read : {A : Type 0} (P : A → Type 0) (want : Sort) (h : Head) (o : Option A) → IsGot P o
    → IfFound P (read_as want h o)
of_read P want h (Some a) g = g
of_read P want h None g = tt

of_judged : {A : Type 0} (P : A → Type 0) (reading : Head → Option A) (want : Sort) (x : List ℕ)
    (m v n : ℕ) (o : Option Head) → IsFitMeaning v n o
    → ((h : Head) → IsFitHead v n h → IsGot P (reading h))
    → IfFound P (judged reading want x m o)
of_judged P reading want x m v n None fit got = tt
of_judged {A} P reading want x m v n (Some h) fit got = by (nat_eq (head_arity h) m)
  where
    by : (c : Bool)
        → IfFound P (chosen reading want (if c then Ok h else (Err (Arity x (head_arity h) m))))
    by true = of_read P want h (reading h) (got h fit)
    by false = tt

index-got : (v n : ℕ) (h : Head) → IsFitHead v n h → IsGot (IsIndexOf n) (as_index h)
index-got v n (head.Bound k Index) fit = tt
index-got v n (head.Bound k Timestamp) fit = tt
index-got v n (head.Bound k Message) fit = tt
index-got v n (head.Bound k Boolean) fit = tt
index-got v n (head.Free k Index) fit = fit
index-got v n (head.Free k Timestamp) fit = tt
index-got v n (head.Free k Message) fit = tt
index-got v n (head.Free k Boolean) fit = tt
index-got v n (head.Schema k s) fit = tt
index-got v n (head.Name a k) fit = tt
index-got v n (head.Function f i m s) fit = tt
index-got v n (head.Action a k) fit = tt

no-moment : (v n : ℕ) (h : Head) → IsFitHead v n h → IsGot (λ (m : Moment). ⊥) (as_moment h)
no-moment v n (head.Bound k Index) fit = tt
no-moment v n (head.Bound k Timestamp) fit = false≢true (sym fit)
no-moment v n (head.Bound k Message) fit = tt
no-moment v n (head.Bound k Boolean) fit = tt
no-moment v n (head.Free k Index) fit = tt
no-moment v n (head.Free k Timestamp) fit = fit
no-moment v n (head.Free k Message) fit = tt
no-moment v n (head.Free k Boolean) fit = tt
no-moment v n (head.Schema k s) fit = tt
no-moment v n (head.Name a k) fit = tt
no-moment v n (head.Function f i m s) fit = tt
no-moment v n (head.Action a k) fit = fit

abbrev IsFitValue : ℕ → Value → Type 0
IsFitValue v (schema_variable k) = k < v
IsFitValue v (name_symbol a) = Unit {0}
IsFitValue v (function f i) = Unit {0}

value-got : (v n : ℕ) (want : Sort) (h : Head) → IsFitHead v n h
    → IsGot (IsFitValue v) (as_value want h)
value-got v n want (head.Bound k s) fit = tt
value-got v n want (head.Free k s) fit = tt
value-got v n want (head.Schema k s) fit = by (is_same_sort want s)
  where
    by : (c : Bool) → IsGot (IsFitValue v) (if c then Some (schema_variable k) else None)
    by true = fit
    by false = tt
value-got v n want (head.Name a k) fit = by (is_same_sort want Message)
  where
    by : (c : Bool) → IsGot (IsFitValue v) (if c then Some (name_symbol a) else None)
    by true = tt
    by false = tt
value-got v n want (head.Function f i m s) fit = by (is_same_sort want s)
  where
    by : (c : Bool) → IsGot (IsFitValue v) (if c then Some (function (kind_of f) i) else None)
    by true = tt
    by false = tt
value-got v n want (head.Action a k) fit = tt

-- ---- binders

pub append-no-times : (xs ys : List Variable) → AreNoTimes xs → AreNoTimes ys
    → AreNoTimes (xs ++ ys)
append-no-times [] ys h g = g
append-no-times (x ∷ xs) ys h g = (h.0, append-no-times xs ys h.1 g)

group-no-times : (s : Sort) (ns : List (List ℕ)) → IsNoTime s → AreNoTimes (group_variables s ns)
group-no-times s [] h = tt
group-no-times s (n ∷ ns) h = (h, group-no-times s ns h)

pub indices-no-times : (ns : List (List ℕ)) → AreNoTimes (group_variables Index ns)
indices-no-times ns = group-no-times Index ns refl

first-false : (c d : Bool) → (c || d) ≡ false → c ≡ false
first-false true d e = e
first-false false d e = refl

second-false : (c d : Bool) → (c || d) ≡ false → d ≡ false
second-false true d e = absurd (false≢true (sym e))
second-false false d e = e

no-times : (gs : List Group) → bind_timestamp gs ≡ false → AreNoTimes (variables gs)
no-times [] e = tt
no-times (g ∷ gs) e =
    append-no-times (group_variables g.1 g.0) (variables gs)
    (group-no-times g.1 g.0 (first-false (is_same_sort g.1 Timestamp) (bind_timestamp gs) e))
    (no-times gs (second-false (is_same_sort g.1 Timestamp) (bind_timestamp gs) e))

pub quantify-held : (v n : ℕ) (q : Quantifier) (xs : List Variable) (a : TermTree)
    → IsHeld v n a → IsHeld v n (quantify q xs a)
quantify-held v n q [] a h = h
quantify-held v n Forall (x ∷ xs) a h = quantify-held v n Forall xs a h
quantify-held v n Exists (x ∷ xs) a h = quantify-held v n Exists xs a h

-- ---- formulas

abbrev AreArguments : ℕ → ℕ → List Idx × TermTrees → Type 0
AreArguments v n r = AreIndicesOf n r.0 × AreHeld v n r.1

with-held : (v n : ℕ) (r : Found Value) (is : Found (List Idx))
    (args : ℕ → Found (List Idx × TermTrees)) → IfFound (IsFitValue v) r
    → IfFound (AreIndicesOf n) is → ((i : ℕ) → IfFound (AreArguments v n) (args i))
    → IfFound (IsHeld v n) (with_arguments r is args)
with-held v n (Err e) is args h g k = tt
with-held v n (Ok (schema_variable j)) is args h g k = h
with-held v n (Ok (name_symbol a)) is args h g k =
    of_mapped (AreIndicesOf n) (IsHeld v n) (t.name a) is g (λ is l. l)
with-held v n (Ok (function f i)) is args h g k =
    of_mapped (AreArguments v n) (IsHeld v n) (function_term f) (args i) (k i) (λ r l. l)

at-refused : (r : Found Moment) (is : Found (List Idx)) → IfFound (λ m. ⊥) r
    → IfFound (λ (u : TsTree). ⊥) (at_indices r is)
at-refused (Ok m) is h = absurd h
at-refused (Err e) is h = tt

module _ (b : Base) (seen : Visible) (v n : ℕ) (fit : AreGivenFit v n seen) where
  index-judged : (bs : List Variable) (x : List ℕ) (m : ℕ) → AreNoTimes bs
      → IfFound (IsIndexOf n) (judged as_index Index x m (meaning (scope_of b seen) bs x))
  index-judged bs x m h =
      of_judged (IsIndexOf n) as_index Index x m v n (meaning (scope_of b seen) bs x)
      (meaning-fits b seen v n bs x fit h) (index-got v n)

  moment-judged : (bs : List Variable) (x : List ℕ) (m : ℕ) → AreNoTimes bs
      → IfFound (λ (m : Moment). ⊥)
      (judged as_moment Timestamp x m (meaning (scope_of b seen) bs x))
  moment-judged bs x m h =
      of_judged (λ (m : Moment). ⊥) as_moment Timestamp x m v n
      (meaning (scope_of b seen) bs x) (meaning-fits b seen v n bs x fit h) (no-moment v n)

  value-judged : (bs : List Variable) (want : Sort) (x : List ℕ) (m : ℕ) → AreNoTimes bs
      → IfFound (IsFitValue v)
      (judged (as_value want) want x m (meaning (scope_of b seen) bs x))
  value-judged bs want x m h =
      of_judged (IsFitValue v) (as_value want) want x m v n (meaning (scope_of b seen) bs x)
      (meaning-fits b seen v n bs x fit h) (value-got v n want)

  index-found : (f : FormulaTree) (bs : List Variable) → AreNoTimes bs
      → IfFound (IsIndexOf n) (index_of (scope_of b seen) bs f)
  index-found (group a) bs h = index-found a bs h
  index-found (name x) bs h = index-judged bs x 0 h
  index-found (apply x xs) bs h = index-judged bs x (count_trees xs) h
  index-found (quantified q gs a) bs h = tt
  index-found (binary o a d) bs h = tt
  index-found (pair a d) bs h = tt
  index-found (constant k) bs h = tt
  index-found (conditional a d e) bs h = tt
  index-found (find ns a d e) bs h = tt
  index-found (diff a d) bs h = tt
  index-found (unary u a) bs h = tt
  index-found (value m a) bs h = tt

  indices-found : (xs : FormulaTrees) (bs : List Variable) → AreNoTimes bs
      → IfFound (AreIndicesOf n) (indices_of (scope_of b seen) bs xs)
  indices-found none bs h = tt
  indices-found (more a xs) bs h =
      of_both (IsIndexOf n) (AreIndicesOf n) (AreIndicesOf n) (λ i is. i ∷ is)
      (index_of (scope_of b seen) bs a) (indices_of (scope_of b seen) bs xs) (index-found a bs h)
      (indices-found xs bs h) (λ i is k l. (k, l))

  time-refused : (f : FormulaTree) (bs : List Variable) → IsTimeless f → AreNoTimes bs
      → IfFound (λ (u : TsTree). ⊥) (time_of (scope_of b seen) bs f)
  time-refused (group a) bs l h = time-refused a bs l h
  time-refused (name x) bs l h =
      at-refused (judged as_moment Timestamp x 0 (meaning (scope_of b seen) bs x)) (Ok [])
      (moment-judged bs x 0 h)
  time-refused (apply x xs) bs l h =
      at-refused
      (judged as_moment Timestamp x (count_trees xs) (meaning (scope_of b seen) bs x))
      (indices_of (scope_of b seen) bs xs) (moment-judged bs x (count_trees xs) h)
  time-refused (quantified q gs a) bs l h = tt
  time-refused (binary o a d) bs l h = tt
  time-refused (pair a d) bs l h = tt
  time-refused (constant True) bs l h = tt
  time-refused (constant False) bs l h = tt
  time-refused (constant Empty) bs l h = tt
  time-refused (constant Init) bs l h = l
  time-refused (conditional a d e) bs l h = tt
  time-refused (find ns a d e) bs l h = tt
  time-refused (diff a d) bs l h = tt
  time-refused (unary Not a) bs l h = tt
  time-refused (unary Fst a) bs l h = tt
  time-refused (unary Snd a) bs l h = tt
  time-refused (unary OfBool a) bs l h = tt
  time-refused (unary Happens a) bs l h = tt
  time-refused (unary Pred a) bs l h = absurd l
  time-refused (value m a) bs l h = tt

  equation-held : (a d : FormulaTree) (bs : List Variable) (want : Sort)
      → IsTimeless a × IsTimeless d → AreNoTimes bs
      → IfFound (IsHeld v n) (term_of (scope_of b seen) bs Message a)
      → IfFound (IsHeld v n) (term_of (scope_of b seen) bs Message d)
      → IfFound (IsHeld v n) (equation (scope_of b seen) bs want a d)
  equation-held a d bs want l h p q =
      let i = index_of (scope_of b seen) bs a in
      let j = index_of (scope_of b seen) bs d in
      let r = time_of (scope_of b seen) bs a in
      let s = time_of (scope_of b seen) bs d in
      let u = term_of (scope_of b seen) bs Message a in
      let w = term_of (scope_of b seen) bs Message d in
      of_expect (IsHeld v n) want Boolean
      (by_sort (own_sort (scope_of b seen) bs a) (both t.idx_eq i j) (both t.ts_eq r s)
      (both formula.equal u w))
      (of_sort (IsHeld v n) (own_sort (scope_of b seen) bs a) (both t.idx_eq i j)
      (both t.ts_eq r s) (both formula.equal u w)
      (of_both (IsIndexOf n) (IsIndexOf n) (IsHeld v n) t.idx_eq i j (index-found a bs h)
      (index-found d bs h) (λ x y f g. (f, g)))
      (refused_both (IsHeld v n) t.ts_eq r s (time-refused a bs l.0 h))
      (of_both (IsHeld v n) (IsHeld v n) (IsHeld v n) formula.equal u w p q
      (λ x y f g. (tt, (f, (g, tt))))))

  two-held : (k : Kind) (want own : Sort) (u w : Found TermTree) → IfFound (IsHeld v n) u
      → IfFound (IsHeld v n) w
      → IfFound (IsHeld v n) (expect want own (both (formula.binary k) u w))
  two-held k want own u w p q =
      of_expect (IsHeld v n) want own (both (formula.binary k) u w)
      (of_both (IsHeld v n) (IsHeld v n) (IsHeld v n) (formula.binary k) u w p q
      (λ x y f g. (tt, (f, (g, tt)))))

  one-held : (k : Kind) (want own : Sort) (u : Found TermTree) → IfFound (IsHeld v n) u
      → IfFound (IsHeld v n) (expect want own (mapped (formula.unary k) u))
  one-held k want own u p =
      of_expect (IsHeld v n) want own (mapped (formula.unary k) u)
      (of_mapped (IsHeld v n) (IsHeld v n) (formula.unary k) u p (λ x f. (tt, (f, tt))))

  mutual
    pub term-held : (f : FormulaTree) (bs : List Variable) (want : Sort) → IsTimeless f
        → AreNoTimes bs → IfFound (IsHeld v n) (term_of (scope_of b seen) bs want f)
    term-held (quantified q gs a) bs want l h =
        let all = bs ++ variables gs in
        let r = term_of (scope_of b seen) all Boolean a in
        of_expect (IsHeld v n) want Boolean (with_binders gs (mapped (quantify q (variables gs)) r))
        (of_binders (IsHeld v n) gs (mapped (quantify q (variables gs)) r)
        (of_mapped (IsHeld v n) (IsHeld v n) (quantify q (variables gs)) r
        (term-held a all Boolean l.1
        (append-no-times bs (variables gs) h (no-times gs l.0)))
        (quantify-held v n q (variables gs))))
    term-held (binary Equal a d) bs want l h =
        equation-held a d bs want l h (term-held a bs Message l.0 h) (term-held d bs Message l.1 h)
    term-held (binary NotEqual a d) bs want l h =
        of_mapped (IsHeld v n) (IsHeld v n) formula.negation
        (equation (scope_of b seen) bs want a d)
        (equation-held a d bs want l h (term-held a bs Message l.0 h)
        (term-held d bs Message l.1 h))
        (λ u k. (tt, (k, tt)))
    term-held (binary LessEqual a d) bs want l h =
        let r = time_of (scope_of b seen) bs a in
        let s = time_of (scope_of b seen) bs d in
        of_expect (IsHeld v n) want Boolean (both t.le r s)
        (refused_both (IsHeld v n) t.le r s (time-refused a bs l.0 h))
    term-held (binary Less a d) bs want l h =
        let r = time_of (scope_of b seen) bs a in
        let s = time_of (scope_of b seen) bs d in
        of_expect (IsHeld v n) want Boolean (both before r s)
        (refused_both (IsHeld v n) before r s (time-refused a bs l.0 h))
    term-held (binary Implies a d) bs want l h =
        two-held kind.implication want Boolean (term_of (scope_of b seen) bs Boolean a)
        (term_of (scope_of b seen) bs Boolean d) (term-held a bs Boolean l.0 h)
        (term-held d bs Boolean l.1 h)
    term-held (binary Or a d) bs want l h =
        two-held kind.disjunction want Boolean (term_of (scope_of b seen) bs Boolean a)
        (term_of (scope_of b seen) bs Boolean d) (term-held a bs Boolean l.0 h)
        (term-held d bs Boolean l.1 h)
    term-held (binary And a d) bs want l h =
        two-held kind.conjunction want Boolean (term_of (scope_of b seen) bs Boolean a)
        (term_of (scope_of b seen) bs Boolean d) (term-held a bs Boolean l.0 h)
        (term-held d bs Boolean l.1 h)
    term-held (group a) bs want l h = term-held a bs want l h
    term-held (pair a d) bs want l h =
        two-held kind.pairing want Message (term_of (scope_of b seen) bs Message a)
        (term_of (scope_of b seen) bs Message d) (term-held a bs Message l.0 h)
        (term-held d bs Message l.1 h)
    term-held (constant k) bs want l h =
        of_expect (IsHeld v n) want (constant_sort k)
        (Ok (formula.constant (constant_kind k))) (tt, tt)
    term-held (conditional a d e) bs want l h =
        let r = term_of (scope_of b seen) bs Boolean a in
        let s = term_of (scope_of b seen) bs Message d in
        let u = term_of (scope_of b seen) bs Message e in
        of_expect (IsHeld v n) want Message (three formula.conditional r s u)
        (of_three (IsHeld v n) (IsHeld v n) (IsHeld v n) (IsHeld v n) formula.conditional r s u
        (term-held a bs Boolean l.0 h) (term-held d bs Message l.1 h)
        (term-held e bs Message l.2 h) (λ x y z f g k. (tt, (f, (g, (k, tt))))))
    term-held (find ns a d e) bs want l h =
        let all = bs ++ group_variables Index ns in
        let more_h = append-no-times bs (group_variables Index ns) h (indices-no-times ns) in
        let r = term_of (scope_of b seen) all Boolean a in
        let s = term_of (scope_of b seen) all Message d in
        let u = term_of (scope_of b seen) bs Message e in
        of_expect (IsHeld v n) want Message (three (t.find (length ns)) r s u)
        (of_three (IsHeld v n) (IsHeld v n) (IsHeld v n) (IsHeld v n) (t.find (length ns)) r s u
        (term-held a all Boolean l.0 more_h) (term-held d all Message l.1 more_h)
        (term-held e bs Message l.2 h) (λ x y z f g k. (f, g, k)))
    term-held (diff a d) bs want l h =
        of_both (IsHeld v n) (IsHeld v n) (IsHeld v n) t.diff
        (term_of (scope_of b seen) bs want a) (term_of (scope_of b seen) bs want d)
        (term-held a bs want l.0 h) (term-held d bs want l.1 h) (λ x y f g. (f, g))
    term-held (unary Not a) bs want l h =
        one-held kind.negation want Boolean (term_of (scope_of b seen) bs Boolean a)
        (term-held a bs Boolean l h)
    term-held (unary Fst a) bs want l h =
        one-held kind.first want Message (term_of (scope_of b seen) bs Message a)
        (term-held a bs Message l h)
    term-held (unary Snd a) bs want l h =
        one-held kind.second want Message (term_of (scope_of b seen) bs Message a)
        (term-held a bs Message l h)
    term-held (unary OfBool a) bs want l h =
        one-held kind.of_bool want Message (term_of (scope_of b seen) bs Boolean a)
        (term-held a bs Boolean l h)
    term-held (unary Happens a) bs want l h = absurd l
    term-held (unary Pred a) bs want l h = absurd l
    term-held (value m a) bs want l h = absurd l
    term-held (name x) bs want l h =
        with-held v n (judged (as_value want) want x 0 (meaning (scope_of b seen) bs x)) (Ok [])
        (λ i. Ok ([], nil)) (value-judged bs want x 0 h) tt (λ i. (tt, tt))
    term-held (apply x xs) bs want l h =
        with-held v n
        (judged (as_value want) want x (count_trees xs) (meaning (scope_of b seen) bs x))
        (indices_of (scope_of b seen) bs xs) (λ i. arguments_of (scope_of b seen) bs i xs)
        (value-judged bs want x (count_trees xs) h) (indices-found xs bs h)
        (λ i. arguments-held xs bs i l h)

    terms-held : (xs : FormulaTrees) (bs : List Variable) → AreTimeless xs → AreNoTimes bs
        → IfFound (AreHeld v n) (terms_of (scope_of b seen) bs xs)
    terms-held none bs l h = tt
    terms-held (more a xs) bs l h =
        of_both (IsHeld v n) (AreHeld v n) (AreHeld v n) cons
        (term_of (scope_of b seen) bs Message a) (terms_of (scope_of b seen) bs xs)
        (term-held a bs Message l.0 h) (terms-held xs bs l.1 h) (λ x y f g. (f, g))

    arguments-held : (xs : FormulaTrees) (bs : List Variable) (i : ℕ) → AreTimeless xs
        → AreNoTimes bs
        → IfFound (AreArguments v n) (arguments_of (scope_of b seen) bs i xs)
    arguments-held none bs i l h = (tt, tt)
    arguments-held (more a xs) bs zero l h =
        let r = both cons (term_of (scope_of b seen) bs Message a)
        (terms_of (scope_of b seen) bs xs) in
        of_mapped (AreHeld v n) (AreArguments v n) (λ ts. ([], ts)) r
        (of_both (IsHeld v n) (AreHeld v n) (AreHeld v n) cons
        (term_of (scope_of b seen) bs Message a) (terms_of (scope_of b seen) bs xs)
        (term-held a bs Message l.0 h) (terms-held xs bs l.1 h) (λ x y f g. (f, g)))
        (λ ts f. (tt, f))
    arguments-held (more a xs) bs (suc i) l h =
        of_both (IsIndexOf n) (AreArguments v n) (AreArguments v n) (λ j r. (j ∷ r.0, r.1))
        (index_of (scope_of b seen) bs a) (arguments_of (scope_of b seen) bs i xs)
        (index-found a bs h) (arguments-held xs bs i l.1 h) (λ j r f g. ((f, g.0), g.1))

  -- a formula that is refused counts as false
  pub or-falsity-held : (f : FormulaTree) (bs : List Variable) (want : Sort) → IsTimeless f
      → AreNoTimes bs
      → IsHeld v n (or_falsity (term_of (scope_of b seen) bs want f))
  or-falsity-held f bs want l h =
      by (term_of (scope_of b seen) bs want f) (term-held f bs want l h)
    where
      by : (r : Found TermTree) → IfFound (IsHeld v n) r → IsHeld v n (or_falsity r)
      by (Ok u) g = g
      by (Err e) g = (tt, tt)
