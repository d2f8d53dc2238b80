-- What a tree resolves to is well-sorted in a signature that fits its scope, with terms in the
-- places of its schema variables.
use Rattle.std.proofs.Common.{◌≡◌, ◌<◌, ◌+◌, ◌-◌, ℕ, zero, suc, Bool, true, false, ◌&&◌, ◌==◌}
use Rattle.std.proofs.Common.{nat_le, List, [], ◌∷◌, ◌++◌, length, map, reverse, Option, Some, None}
use Rattle.std.proofs.Common.{slice_get, unwrap_or, refl, sym, ap, ◌∙◌, subst, arith}
use Rattle.std.specs.Prelude.{Ok, replicate, if◌then◌else◌}
use Rattle.std.proofs.lemmas.Bool.{false≢true}
use Rattle.std.proofs.lemmas.Bool.Decides.{nat_tests, Decides-eqb}
use Rattle.std.proofs.lemmas.List.{length-map, map-append, reverse-append, append-nil, append_assoc}
use Rattle.sq_base.specs.declared.sort.Sort.{Sort}
use Rattle.sq_base.specs.declared.sort.Sort.TheVariants.{Message, Boolean, Index, Timestamp}
use Rattle.sq_ast.specs.declared.formula.Quantifier.{Quantifier}
use Rattle.sq_ast.specs.declared.formula.Quantifier.TheVariants.{Forall, Exists}
use Rattle.sq_ast.specs.declared.formula.Binary.TheVariants.{Implies, Or, And, Equal, NotEqual}
use Rattle.sq_ast.specs.declared.formula.Binary.TheVariants.{LessEqual, Less}
use Rattle.sq_ast.specs.declared.formula.Constant.TheVariants.{True, False, Empty, Init}
use Rattle.sq_ast.specs.declared.formula.Unary.TheVariants.{Not, Fst, Snd, OfBool, Happens, Pred}
use Rattle.sq_ast.specs.declared.formula.MacroWord.TheVariants.{Input, Output, Cond, Exec, Frame}
use Rattle.sq_ast.specs.Tree.{Group, FormulaTree, quantified, binary, group, pair, constant}
use Rattle.sq_ast.specs.Tree.{conditional, find, diff, unary, value, name, apply, FormulaTrees}
use Rattle.sq_ast.specs.Tree.{none, more}
use Rattle.sq_term.specs.declared.signature.FunDecl.{FunDecl}
use Rattle.sq_term.specs.declared.term.Idx.{Idx}
use Rattle.sq_term.specs.declared.term.Idx.TheVariants as idx
use Rattle.sq_term.specs.Arguments.{ArgTree, an_index, a_time}
use Rattle.sq_term.specs.Builtins.{arguments}
use Rattle.sq_term.specs.Formulas as formula
use Rattle.sq_term.specs.Measure.{count_terms}
use Rattle.sq_term.specs.Pure.{is_binder_sort}
use Rattle.sq_term.specs.Symbols as kind
use Rattle.sq_term.specs.Symbols.{Kind, IsDeclared, declared, function_number, kind_of}
use Rattle.sq_term.specs.Syntax as t
use Rattle.sq_term.specs.Syntax.{TsTree, TermTree, TermTrees, nil, cons}
use Rattle.sq_term.specs.TreeEquality.{is_same_sort}
use Rattle.sq_term.proofs.BoolTests.{and_split, and_both}
use Rattle.sq_term.proofs.KindNumbers.{function_number-kind_of}
use Rattle.sq_term.proofs.SameTrees.{is_same_sort-decides}
use Rattle.sq_typing.specs.Functions.{is_value_sort, builtin_function, builtin_functions}
use Rattle.sq_typing.specs.Typing.{Signature, has_sort_at, has_count_at, is_index, are_indices}
use Rattle.sq_typing.specs.Typing.{is_timestamp, applies, result_sort, argument_sort, macro_sort}
use Rattle.sq_typing.specs.Typing.{has_sort, have_sorts}
use Rattle.sq_typing.proofs.Formulas.{application-sorted}
use Rattle.sq_subst.specs.Leaves.{Leaves, map_term, map_terms, map_ts}
use Rattle.sq_subst.specs.Substitution.{index_or, time_or, past, substitution}
use Rattle.sq_subst.proofs.Fusion.{kept as term_stays}
use Rattle.sq_subst.proofs.TestLaws.{no_tests, passes_none}
use Rattle.sq_resolve.specs.declared.head.Head.{Head}
use Rattle.sq_resolve.specs.declared.head.Head.TheVariants as head
use Rattle.sq_resolve.specs.Fitting.{binder_sorts, filled, filling, Fits, IsFreeIndex}
use Rattle.sq_resolve.specs.Fitting.{AreFreeIndices}
use Rattle.sq_resolve.specs.Scopes.{Variable, Context, meaning, head_arity}
use Rattle.sq_resolve.specs.Resolved.{as_index, Moment, moment, instance, as_moment, Value}
use Rattle.sq_resolve.specs.Resolved.{schema_variable, name_symbol, function, as_value, macro_of}
use Rattle.sq_resolve.specs.Resolved.{own_sort, count_trees, quantifier, quantify, group_variables}
use Rattle.sq_resolve.specs.Resolved.{variables, bind_no_message, before, constant_kind}
use Rattle.sq_resolve.specs.Resolved.{constant_sort, function_term}
use Rattle.sq_resolve.specs.Typed.{Means, OfTwo, OfOne, OfThree, IsIndex, AreIndices, IsMoment}
use Rattle.sq_resolve.specs.Typed.{IsTime, IsEquation, HasArguments, IsTerm, AreArguments}
use Rattle.sq_resolve.specs.Typed.{AreMessages}
use Rattle.sq_resolve.proofs.Further.{closed_further}
use Rattle.sq_resolve.proofs.Meant.{IsFunction, Has, meant}

-- ---- binders

pub sorts_pushed : (bs : List Variable) (v : Variable)
    → binder_sorts (bs ++ v ∷ []) ≡ v.1 ∷ binder_sorts bs
sorts_pushed bs v =
    ap reverse (map-append (λ (w : Variable). w.1) bs (v ∷ []))
    ∙ reverse-append (map (λ (w : Variable). w.1) bs) (v.1 ∷ [])

more_indices : (n : ℕ) (ss : List Sort)
    → replicate n Index ++ (Index ∷ ss) ≡ Index ∷ (replicate n Index ++ ss)
more_indices zero ss = refl
more_indices (suc n) ss = ap (λ l. Index ∷ l) (more_indices n ss)

pub indices_around : (bs : List Variable) (ns : List (List ℕ))
    → binder_sorts (bs ++ group_variables Index ns)
    ≡ replicate (length ns) Index ++ binder_sorts bs
indices_around bs [] = ap binder_sorts (append-nil bs)
indices_around bs (n ∷ ns) =
    ap binder_sorts (sym (append_assoc bs ((n, Index) ∷ []) (group_variables Index ns)))
    ∙ (indices_around (bs ++ (n, Index) ∷ []) ns
    ∙ (ap (λ (l : List Sort). replicate (length ns) Index ++ l) (sorts_pushed bs (n, Index))
    ∙ more_indices (length ns) (binder_sorts bs)))

-- each variable may be bound
abbrev pub may_bind : List Variable → Bool
may_bind [] = true
may_bind (v ∷ vs) = is_binder_sort v.1 && may_bind vs

group_binds : (s : Sort) (ns : List (List ℕ)) (vs : List Variable) → is_binder_sort s ≡ true
    → may_bind vs ≡ true → may_bind (group_variables s ns ++ vs) ≡ true
group_binds s [] vs e h = h
group_binds s (n ∷ ns) vs e h =
    and_both (is_binder_sort s) (may_bind (group_variables s ns ++ vs)) e
    (group_binds s ns vs e h)

variables_bind : (gs : List Group) → bind_no_message gs ≡ true → may_bind (variables gs) ≡ true
variables_bind [] e = refl
variables_bind (g ∷ gs) e =
    let p = and_split (is_binder_sort g.1) (bind_no_message gs) e in
    group_binds g.1 g.0 (variables gs) p.0 (variables_bind gs p.1)

-- ---- counts

same_number : (a b : ℕ) → a ≡ b → (a == b) ≡ true
same_number a b e = (Decides-eqb a b).1 e

index_count : (c : Context) (bs : List Variable) (xs : FormulaTrees) (is : List Idx)
    → AreIndices c bs xs is → length is ≡ count_trees xs
index_count c bs none is h = ap length h
index_count c bs (more a xs) is h =
    let rest = index_count c bs xs h.1.0 h.1.1.1 in
    let first : length is ≡ suc (length h.1.0) = ap length h.1.1.2 in
    omega (arith, rest, first)

count_at : (ms : List ℕ) (k m n : ℕ) → m ≡ n → has_count_at ms k n ≡ true
    → has_count_at ms k m ≡ true
count_at ms k m n e h = ap (has_count_at ms k) e ∙ h

all_three : (a b c : Bool) → a ≡ true → b ≡ true → c ≡ true → (a && (b && (c && true))) ≡ true
all_three a b c d e f =
    and_both a (b && (c && true)) d
    (and_both b (c && true) e (and_both c true f refl))

both_two : (a b : Bool) → a ≡ true → b ≡ true → (a && (b && true)) ≡ true
both_two a b d e = and_both a (b && true) d (and_both b true e refl)

only_one : (a : Bool) → a ≡ true → (a && true) ≡ true
only_one a e = and_both a true e refl

le_step : (m k : ℕ) → nat_le (m + 1) (suc k) ≡ nat_le m k
le_step m k = on (nat_le m k) refl
  where
    on : (q : Bool) → nat_le m k ≡ q → nat_le (m + 1) (suc k) ≡ q
    on true e = grind (arith, nat_tests)
    on false e = grind (arith, nat_tests)

module _ (c : Context) (g : Signature) (values : List TermTree) (fits : Fits c g values)
    (outer : List ArgTree) (are_free : AreFreeIndices g outer) where
  abbrev put : Leaves
  put = substitution [] outer values

  -- ---- what is put in the place of a bound variable

  from_outer : (m k : ℕ) (a : ArgTree) → past outer m k ≡ Some a → IsFreeIndex g a
  from_outer m k a e = by (nat_le m k) e
    where
      by : (b : Bool) → (if b then slice_get outer (k - m) else None) ≡ Some a → IsFreeIndex g a
      by true h = are_free (k - m) a h
      by false h = let n : ⊥ = cc in absurd n

  time_stays : (m k : ℕ) → put.bound_time m k ≡ t.bound k
  time_stays m k = by (past outer m k) refl
    where
      by : (o : Option ArgTree) → past outer m k ≡ o → time_or o (t.bound k) ≡ t.bound k
      by None e = refl
      by (Some (an_index i)) e = refl
      by (Some (a_time u)) e = absurd (from_outer m k (a_time u) e)

  -- bound variables of the term, behind binders of the sorts ss, keep their sorts behind binders of
  -- the sorts ts
  abbrev pub Stands : ℕ → List Sort → List Sort → Type 0
  Stands m ss ts =
      ((k : ℕ) → has_sort_at ss k Index ≡ true → is_index g ts (put.index m (idx.Bound k)) ≡ true)
      × ((k : ℕ) → has_sort_at ss k Timestamp ≡ true → has_sort_at ts k Timestamp ≡ true)

  past_step : (m k : ℕ) → past outer (m + 1) (suc k) ≡ past outer m k
  past_step m k =
      let place : suc k - (m + 1) ≡ k - m = omega arith in
      λ i. if le_step m k i then slice_get outer (place i) else None

  -- one binder further out
  index_pushed : (m k : ℕ) (ts : List Sort) (b : Sort) (o : Option ArgTree) → past outer m k ≡ o
      → is_index g ts (index_or o (idx.Bound k)) ≡ true
      → is_index g (b ∷ ts) (index_or o (idx.Bound (suc k))) ≡ true
  index_pushed m k ts b None e f = f
  index_pushed m k ts b (Some (an_index (idx.Free j))) e f = f
  index_pushed m k ts b (Some (an_index (idx.Bound j))) e f =
      absurd (from_outer m k (an_index (idx.Bound j)) e)
  index_pushed m k ts b (Some (a_time u)) e f = absurd (from_outer m k (a_time u) e)

  pushed : (m : ℕ) (ss ts : List Sort) (b : Sort) → Stands m ss ts
      → Stands (m + 1) (b ∷ ss) (b ∷ ts)
  pushed m ss ts b st = (index, time)
    where
      index : (k : ℕ) → has_sort_at (b ∷ ss) k Index ≡ true
          → is_index g (b ∷ ts) (put.index (m + 1) (idx.Bound k)) ≡ true
      index zero h =
          let low : nat_le (m + 1) 0 ≡ false = grind (arith, nat_tests) in
          let inner : past outer (m + 1) 0 ≡ None =
          ap (λ (q : Bool). if q then slice_get outer (0 - (m + 1)) else None) low in
          ap (λ (o : Option ArgTree). is_index g (b ∷ ts) (index_or o (idx.Bound 0))) inner ∙ h
      index (suc k) h =
          ap (λ (o : Option ArgTree). is_index g (b ∷ ts) (index_or o (idx.Bound (suc k))))
          (past_step m k) ∙ index_pushed m k ts b (past outer m k) refl (st.0 k h)

      time : (k : ℕ) → has_sort_at (b ∷ ss) k Timestamp ≡ true
          → has_sort_at (b ∷ ts) k Timestamp ≡ true
      time zero h = h
      time (suc k) h = st.1 k h

  all_pushed : (n m : ℕ) (ss ts : List Sort) → Stands m ss ts
      → Stands (m + n) (replicate n Index ++ ss) (replicate n Index ++ ts)
  all_pushed zero m ss ts st =
      let place : m ≡ m + 0 = omega arith in subst (λ (k : ℕ). Stands k ss ts) place st
  all_pushed (suc n) m ss ts st =
      let place : m + n + 1 ≡ m + suc n = omega arith in
      subst
      (λ (k : ℕ). Stands k (Index ∷ (replicate n Index ++ ss)) (Index ∷ (replicate n Index ++ ts)))
      place
      (pushed (m + n) (replicate n Index ++ ss) (replicate n Index ++ ts) Index
      (all_pushed n m ss ts st))

  -- ---- at a place of the tree, behind the binders bs

  module _ (bs : List Variable) (m : ℕ) (ts : List Sort) (st : Stands m (binder_sorts bs) ts) where
    abbrev HasHere : Head → Type 0
    HasHere h = Has g values (binder_sorts bs) h

    head_index : (h : Head) (i : Idx) → as_index h ≡ Some i → HasHere h
        → is_index g ts (put.index m i) ≡ true
    head_index (head.Bound k Index) i e there =
        let same : idx.Bound k ≡ i = cc in
        subst (λ (j : Idx). is_index g ts (put.index m j) ≡ true) same (st.0 k there)
    head_index (head.Free k Index) i e there =
        let same : idx.Free k ≡ i = cc in
        subst (λ (j : Idx). is_index g ts (put.index m j) ≡ true) same there
    head_index _ i e there = let n : ⊥ = cc in absurd n

    index_sorted : (f : FormulaTree) (i : Idx) → IsIndex c bs f i
        → is_index g ts (put.index m i) ≡ true
    index_sorted (group a) i h = index_sorted a i h
    index_sorted (name x) i h =
        head_index h.0 i h.1.1 (meant c g values fits bs x h.0 h.1.0.0)
    index_sorted (apply x xs) i h =
        head_index h.0 i h.1.1 (meant c g values fits bs x h.0 h.1.0.0)
    index_sorted _ i h = absurd h

    indices_sorted : (xs : FormulaTrees) (is : List Idx) → AreIndices c bs xs is
        → are_indices g ts (map (put.index m) is) ≡ true
    indices_sorted none is h = ap (λ (l : List Idx). are_indices g ts (map (put.index m) l)) h
    indices_sorted (more a xs) is h =
        ap (λ (l : List Idx). are_indices g ts (map (put.index m) l)) h.1.1.2
        ∙ and_both (is_index g ts (put.index m h.0))
        (are_indices g ts (map (put.index m) h.1.0))
        (index_sorted a h.0 h.1.1.0) (indices_sorted xs h.1.0 h.1.1.1)

    -- a list of indices of this length
    abbrev Indices : ℕ → List Idx → Type 0
    Indices n is =
        (length (map (put.index m) is) ≡ n) × (are_indices g ts (map (put.index m) is) ≡ true)

    indices_of_trees : (xs : FormulaTrees) (is : List Idx) → AreIndices c bs xs is
        → Indices (count_trees xs) is
    indices_of_trees xs is h =
        (length-map is (put.index m) ∙ index_count c bs xs is h, indices_sorted xs is h)

    moment_sorted : (xs : FormulaTrees) (h : Head) (v : Moment) (u : TsTree) → as_moment h ≡ Some v
        → HasHere h → head_arity h ≡ count_trees xs → IsMoment c bs xs v u
        → is_timestamp g ts (map_ts put m u) ≡ true
    moment_sorted xs (head.Bound k Timestamp) v u e there n is =
        let same : v ≡ moment (t.bound k) = cc in
        let what = subst (λ (w : Moment). IsMoment c bs xs w u) same is in
        ap (λ (w : TsTree). is_timestamp g ts (map_ts put m w)) what
        ∙ (ap (is_timestamp g ts) (time_stays m k) ∙ st.1 k there)
    moment_sorted xs (head.Free k Timestamp) v u e there n is =
        let same : v ≡ moment (t.free k) = cc in
        let what = subst (λ (w : Moment). IsMoment c bs xs w u) same is in
        ap (λ (w : TsTree). is_timestamp g ts (map_ts put m w)) what ∙ there
    moment_sorted xs (head.Action a k) v u e there n is =
        let same : v ≡ instance a = cc in
        let what = subst (λ (w : Moment). IsMoment c bs xs w u) same is in
        let all = indices_of_trees xs what.0 what.1.0 in
        ap (λ (w : TsTree). is_timestamp g ts (map_ts put m w)) what.1.1
        ∙ and_both (has_count_at g.actions a (length (map (put.index m) what.0)))
        (are_indices g ts (map (put.index m) what.0))
        (count_at g.actions a (length (map (put.index m) what.0)) k (all.0 ∙ sym n) there)
        all.1
    moment_sorted xs _ v u e there n is = let n : ⊥ = cc in absurd n

    time_sorted : (f : FormulaTree) (u : TsTree) → IsTime c bs f u
        → is_timestamp g ts (map_ts put m u) ≡ true
    time_sorted (group a) u h = time_sorted a u h
    time_sorted (constant Init) u h = ap (λ (w : TsTree). is_timestamp g ts (map_ts put m w)) h
    time_sorted (unary Pred a) u h =
        ap (λ (w : TsTree). is_timestamp g ts (map_ts put m w)) h.1.1 ∙ time_sorted a h.0 h.1.0
    time_sorted (name x) u h =
        moment_sorted none h.0 h.1.0 u h.1.1.1 (meant c g values fits bs x h.0 h.1.1.0.0)
        h.1.1.0.1 h.1.1.2
    time_sorted (apply x xs) u h =
        moment_sorted xs h.0 h.1.0 u h.1.1.1 (meant c g values fits bs x h.0 h.1.1.0.0)
        h.1.1.0.1 h.1.1.2
    time_sorted _ u h = absurd h

    -- ---- terms

    abbrev IsSorted : Sort → TermTree → Type 0
    IsSorted s u = has_sort g ts s (map_term put m u) ≡ true

    at_sort : (s r : Sort) (u v : TermTree) → s ≡ r → u ≡ v → IsSorted r v → IsSorted s u
    at_sort s r u v d e h = (λ i. has_sort g ts (d i) (map_term put m (e i))) ∙ h

    -- the messages of a declared function
    abbrev AreSortedMessages : TermTrees → Type 0
    AreSortedMessages nil = Unit {0}
    AreSortedMessages (cons u us) = IsSorted Message u × AreSortedMessages us

    message_argument : (f : Kind) (k : ℕ) → IsDeclared f → argument_sort f k ≡ Message
    message_argument (declared j) k h = refl
    message_argument _ k h = absurd h

    declared_sorts : (f : Kind) → IsDeclared f → (k : ℕ) (us : TermTrees) → AreSortedMessages us
        → have_sorts g ts f k (map_terms put m us) ≡ true
    declared_sorts f d k nil h = refl
    declared_sorts f d k (cons u us) h =
        and_both (has_sort g ts (argument_sort f k) (map_term put m u))
        (have_sorts g ts f (suc k) (map_terms put m us))
        (ap (λ (s : Sort). has_sort g ts s (map_term put m u)) (message_argument f k d) ∙ h.0)
        (declared_sorts f d (suc k) us h.1)

    terms_count : (us : TermTrees) → count_terms (map_terms put m us) ≡ count_terms us
    terms_count nil = refl
    terms_count (cons u us) = ap suc (terms_count us)

    abbrev Arguments : ℕ → ℕ → List Idx × TermTrees → Type 0
    Arguments i k r = Indices i r.0 × (count_terms r.1 ≡ k) × AreSortedMessages r.1

    function_sorted : (f i k : ℕ) (s : Sort) (r : List Idx × TermTrees) → IsFunction g f i k s
        → Arguments i k r → IsSorted s (function_term (kind_of f) r)
    function_sorted f i k s r is all =
        let is_there : slice_get g.funs (function_number (kind_of f)) ≡ Some is.decl =
        ap (slice_get g.funs) (function_number-kind_of f) ∙ is.there in
        let js = map (put.index m) r.0 in
        let us = map_terms put m r.1 in
        let many = terms_count r.1 ∙ all.1 in
        let o = slice_get g.funs (function_number (kind_of f)) in
        and_both (is_same_sort (result_sort o) s)
        (applies o (length js) (count_terms us)
        && (are_indices g ts js && have_sorts g ts (kind_of f) 0 us))
        (ap (λ (d : Option FunDecl). is_same_sort (result_sort d) s) is_there
        ∙ (is_same_sort-decides (is.decl).result s).1 is.result)
        (and_both (applies o (length js) (count_terms us))
        (are_indices g ts js && have_sorts g ts (kind_of f) 0 us)
        (ap (λ (d : Option FunDecl). applies d (length js) (count_terms us)) is_there
        ∙ and_both ((is.decl).idx == length js) ((is.decl).args == count_terms us)
        (same_number (is.decl).idx (length js) (is.indices ∙ sym all.0.0))
        (same_number (is.decl).args (count_terms us) (is.arguments ∙ sym many)))
        (and_both (are_indices g ts js) (have_sorts g ts (kind_of f) 0 us) all.0.1
        (declared_sorts (kind_of f) is.declared 0 r.1 all.2)))

    -- what an identifier with n arguments comes to
    value_sorted : (s : Sort) (n : ℕ) (h : Head) (v : Value) (R : List Idx → Type 0)
        (S : ℕ → List Idx × TermTrees → Type 0) (u : TermTree) → as_value s h ≡ Some v
        → HasHere h → head_arity h ≡ n → ((is : List Idx) → R is → Indices n is)
        → ((i k : ℕ) (r : List Idx × TermTrees) → n ≡ i + k → S i r → Arguments i k r)
        → HasArguments v R S u → IsSorted s u
    value_sorted s n (head.Schema k r) v R S u e there arity onR onS is =
        by (is_same_sort s r) refl e
      where
        by : (b : Bool) → is_same_sort s r ≡ b → (if b then Some (schema_variable k) else None)
            ≡ Some v
            → IsSorted s u
        by true d f =
            let same : v ≡ schema_variable k = cc in
            let what = subst (λ (w : Value). HasArguments w R S u) same is in
            let sort = (is_same_sort-decides s r).0 d in
            at_sort s r u (t.schema k) sort what
            (closed_further g ts r (filling values k) there)
        by false d f = let z : ⊥ = cc in absurd z
    value_sorted s n (head.Name a k) v R S u e there arity onR onS is =
        by (is_same_sort s Message) refl e
      where
        by : (b : Bool) → is_same_sort s Message ≡ b
            → (if b then Some (name_symbol a) else None) ≡ Some v → IsSorted s u
        by true d f =
            let same : v ≡ name_symbol a = cc in
            let what = subst (λ (w : Value). HasArguments w R S u) same is in
            let all = onR what.0 what.1.0 in
            at_sort s Message u (t.name a what.0) ((is_same_sort-decides s Message).0 d) what.1.1
            (and_both (has_count_at g.names a (length (map (put.index m) what.0)))
            (are_indices g ts (map (put.index m) what.0))
            (count_at g.names a (length (map (put.index m) what.0)) k (all.0 ∙ sym arity) there)
            all.1)
        by false d f = let z : ⊥ = cc in absurd z
    value_sorted s n (head.Function a i k r) v R S u e there arity onR onS is =
        by (is_same_sort s r) refl e
      where
        by : (b : Bool) → is_same_sort s r ≡ b
            → (if b then Some (function (kind_of a) i) else None) ≡ Some v → IsSorted s u
        by true d f =
            let same : v ≡ function (kind_of a) i = cc in
            let what = subst (λ (w : Value). HasArguments w R S u) same is in
            at_sort s r u (function_term (kind_of a) what.0) ((is_same_sort-decides s r).0 d)
            what.1.1
            (function_sorted a i k r what.0 there (onS i k what.0 (sym arity) what.1.0))
        by false d f = let z : ⊥ = cc in absurd z
    value_sorted s n _ v R S u e there arity onR onS is = let z : ⊥ = cc in absurd z

    -- a built-in function of one, two or three terms
    one_sorted : (f : Kind) (a : TermTree)
        → slice_get builtin_functions (function_number f) ≡ Some (builtin_function f)
        → 1 ≡ arguments f → IsSorted (argument_sort f 0) a
        → IsSorted (builtin_function f).result (formula.unary f a)
    one_sorted f a e n h =
        application-sorted g fits.builtin f ts (cons (map_term put m a) nil) e n
        (only_one (has_sort g ts (argument_sort f 0) (map_term put m a)) h)

    two_sorted : (f : Kind) (a b : TermTree)
        → slice_get builtin_functions (function_number f) ≡ Some (builtin_function f)
        → 2 ≡ arguments f → IsSorted (argument_sort f 0) a → IsSorted (argument_sort f 1) b
        → IsSorted (builtin_function f).result (formula.binary f a b)
    two_sorted f a b e n h k =
        application-sorted g fits.builtin f ts
        (cons (map_term put m a) (cons (map_term put m b) nil)) e n
        (both_two (has_sort g ts (argument_sort f 0) (map_term put m a))
        (has_sort g ts (argument_sort f 1) (map_term put m b)) h k)

    three_sorted : (f : Kind) (a b d : TermTree)
        → slice_get builtin_functions (function_number f) ≡ Some (builtin_function f)
        → 3 ≡ arguments f → IsSorted (argument_sort f 0) a → IsSorted (argument_sort f 1) b
        → IsSorted (argument_sort f 2) d
        → IsSorted (builtin_function f).result (formula.ternary f a b d)
    three_sorted f a b d e n h k l =
        application-sorted g fits.builtin f ts
        (cons (map_term put m a) (cons (map_term put m b) (cons (map_term put m d) nil))) e n
        (all_three (has_sort g ts (argument_sort f 0) (map_term put m a))
        (has_sort g ts (argument_sort f 1) (map_term put m b))
        (has_sort g ts (argument_sort f 2) (map_term put m d)) h k l)

    messages_equal : (a b : FormulaTree) (u : TermTree)
        → ((v : TermTree) → IsTerm c bs Message a v → IsSorted Message v)
        → ((v : TermTree) → IsTerm c bs Message b v → IsSorted Message v)
        → OfTwo (IsTerm c bs Message a) (IsTerm c bs Message b) formula.equal u
        → IsSorted Boolean u
    messages_equal a b u f k h =
        at_sort Boolean Boolean u (formula.equal h.0 h.1.0) refl h.1.1.2
        (two_sorted kind.equality h.0 h.1.0 refl refl (f h.0 h.1.1.0) (k h.1.0 h.1.1.1))

    equation_sorted : (o : Sort) (a b : FormulaTree) (u : TermTree)
        → ((v : TermTree) → IsTerm c bs Message a v → IsSorted Message v)
        → ((v : TermTree) → IsTerm c bs Message b v → IsSorted Message v)
        → IsEquation o (OfTwo (IsIndex c bs a) (IsIndex c bs b) t.idx_eq u)
        (OfTwo (IsTime c bs a) (IsTime c bs b) t.ts_eq u)
        (OfTwo (IsTerm c bs Message a) (IsTerm c bs Message b) formula.equal u)
        → IsSorted Boolean u
    equation_sorted Index a b u f k h =
        at_sort Boolean Boolean u (t.idx_eq h.0 h.1.0) refl h.1.1.2
        (and_both (is_index g ts (put.index m h.0)) (is_index g ts (put.index m h.1.0))
        (index_sorted a h.0 h.1.1.0) (index_sorted b h.1.0 h.1.1.1))
    equation_sorted Timestamp a b u f k h =
        at_sort Boolean Boolean u (t.ts_eq h.0 h.1.0) refl h.1.1.2
        (and_both (is_timestamp g ts (map_ts put m h.0)) (is_timestamp g ts (map_ts put m h.1.0))
        (time_sorted a h.0 h.1.1.0) (time_sorted b h.1.0 h.1.1.1))
    equation_sorted Message a b u f k h = messages_equal a b u f k h
    equation_sorted Boolean a b u f k h = messages_equal a b u f k h

    no_arguments : (i k : ℕ) (r : List Idx × TermTrees) → 0 ≡ i + k → r ≡ ([], nil)
        → Arguments i k r
    no_arguments i k r n e =
        let first : 0 ≡ i = omega arith in
        let second : 0 ≡ k = omega arith in
        subst (λ (p : List Idx × TermTrees). Arguments i k p) (sym e)
        ((first, refl), second, tt)

  -- ---- quantifiers

  one_bound : (q : Quantifier) (m : ℕ) (ts : List Sort) (b : Sort) (v : TermTree)
      → is_binder_sort b ≡ true → has_sort g (b ∷ ts) Boolean (map_term put (m + 1) v) ≡ true
      → has_sort g ts Boolean (map_term put m (quantifier q b v)) ≡ true
  one_bound Forall m ts b v e h =
      and_both (is_binder_sort b) (has_sort g (b ∷ ts) Boolean (map_term put (m + 1) v)) e h
  one_bound Exists m ts b v e h =
      and_both (is_binder_sort b) (has_sort g (b ∷ ts) Boolean (map_term put (m + 1) v)) e h

  quantified_sorted : (q : Quantifier) (vs bs : List Variable) (m : ℕ) (ts : List Sort)
      → Stands m (binder_sorts bs) ts → (v : TermTree) → may_bind vs ≡ true
      → ((n : ℕ) (rs : List Sort) → Stands n (binder_sorts (bs ++ vs)) rs
      → has_sort g rs Boolean (map_term put n v) ≡ true)
      → has_sort g ts Boolean (map_term put m (quantify q vs v)) ≡ true
  quantified_sorted q [] bs m ts st v e go =
      go m ts
      (subst (λ (l : List Variable). Stands m (binder_sorts l) ts) (sym (append-nil bs)) st)
  quantified_sorted q (w ∷ vs) bs m ts st v e go =
      let p = and_split (is_binder_sort w.1) (may_bind vs) e in
      let inner =
      subst (λ (l : List Sort). Stands (m + 1) l (w.1 ∷ ts)) (sym (sorts_pushed bs w))
      (pushed m (binder_sorts bs) ts w.1 st) in
      one_bound q m ts w.1 (quantify q vs v) p.0
      (quantified_sorted q vs (bs ++ w ∷ []) (m + 1) (w.1 ∷ ts) inner v p.1
      (λ n rs k. go n rs
      (subst (λ (l : List Variable). Stands n (binder_sorts l) rs)
      (append_assoc bs (w ∷ []) vs) k)))

  -- ---- all forms

  mutual
    term_sorted : (bs : List Variable) (m : ℕ) (ts : List Sort) → Stands m (binder_sorts bs) ts
        → (s : Sort) (f : FormulaTree) (u : TermTree) → is_value_sort s ≡ true
        → IsTerm c bs s f u → has_sort g ts s (map_term put m u) ≡ true
    term_sorted bs m ts st s (quantified q gs a) u vs h =
        at_sort bs m ts st s Boolean u (quantify q (variables gs) h.2.0) h.0 h.2.1.1
        (quantified_sorted q (variables gs) bs m ts st h.2.0 (variables_bind gs h.1)
        (λ n rs go. term_sorted (bs ++ variables gs) n rs go Boolean a h.2.0 refl h.2.1.0))
    term_sorted bs m ts st s (binary Implies a b) u vs h =
        at_sort bs m ts st s Boolean u (formula.implies h.1.0 h.1.1.0) h.0 h.1.1.1.2
        (two_sorted bs m ts st kind.implication h.1.0 h.1.1.0 refl refl
        (term_sorted bs m ts st Boolean a h.1.0 refl h.1.1.1.0)
        (term_sorted bs m ts st Boolean b h.1.1.0 refl h.1.1.1.1))
    term_sorted bs m ts st s (binary Or a b) u vs h =
        at_sort bs m ts st s Boolean u (formula.either h.1.0 h.1.1.0) h.0 h.1.1.1.2
        (two_sorted bs m ts st kind.disjunction h.1.0 h.1.1.0 refl refl
        (term_sorted bs m ts st Boolean a h.1.0 refl h.1.1.1.0)
        (term_sorted bs m ts st Boolean b h.1.1.0 refl h.1.1.1.1))
    term_sorted bs m ts st s (binary And a b) u vs h =
        at_sort bs m ts st s Boolean u (formula.both h.1.0 h.1.1.0) h.0 h.1.1.1.2
        (two_sorted bs m ts st kind.conjunction h.1.0 h.1.1.0 refl refl
        (term_sorted bs m ts st Boolean a h.1.0 refl h.1.1.1.0)
        (term_sorted bs m ts st Boolean b h.1.1.0 refl h.1.1.1.1))
    term_sorted bs m ts st s (binary Equal a b) u vs h =
        at_sort bs m ts st s Boolean u u h.0 refl
        (equation_sorted bs m ts st (own_sort c bs a) a b u
        (λ v k. term_sorted bs m ts st Message a v refl k)
        (λ v k. term_sorted bs m ts st Message b v refl k) h.1)
    term_sorted bs m ts st s (binary NotEqual a b) u vs h =
        at_sort bs m ts st s Boolean u (formula.negation h.0) h.1.0.0 h.1.1
        (one_sorted bs m ts st kind.negation h.0 refl refl
        (equation_sorted bs m ts st (own_sort c bs a) a b h.0
        (λ v k. term_sorted bs m ts st Message a v refl k)
        (λ v k. term_sorted bs m ts st Message b v refl k) h.1.0.1))
    term_sorted bs m ts st s (binary LessEqual a b) u vs h =
        at_sort bs m ts st s Boolean u (t.le h.1.0 h.1.1.0) h.0 h.1.1.1.2
        (and_both (is_timestamp g ts (map_ts put m h.1.0))
        (is_timestamp g ts (map_ts put m h.1.1.0)) (time_sorted bs m ts st a h.1.0 h.1.1.1.0)
        (time_sorted bs m ts st b h.1.1.0 h.1.1.1.1))
    term_sorted bs m ts st s (binary Less a b) u vs h =
        let both_are =
        and_both (is_timestamp g ts (map_ts put m h.1.0))
        (is_timestamp g ts (map_ts put m h.1.1.0)) (time_sorted bs m ts st a h.1.0 h.1.1.1.0)
        (time_sorted bs m ts st b h.1.1.0 h.1.1.1.1) in
        at_sort bs m ts st s Boolean u (before h.1.0 h.1.1.0) h.0 h.1.1.1.2
        (two_sorted bs m ts st kind.conjunction (t.le h.1.0 h.1.1.0)
        (formula.negation (t.ts_eq h.1.0 h.1.1.0)) refl refl both_are
        (one_sorted bs m ts st kind.negation (t.ts_eq h.1.0 h.1.1.0) refl refl both_are))
    term_sorted bs m ts st s (group a) u vs h = term_sorted bs m ts st s a u vs h
    term_sorted bs m ts st s (pair a b) u vs h =
        at_sort bs m ts st s Message u (formula.pair h.1.0 h.1.1.0) h.0 h.1.1.1.2
        (two_sorted bs m ts st kind.pairing h.1.0 h.1.1.0 refl refl
        (term_sorted bs m ts st Message a h.1.0 refl h.1.1.1.0)
        (term_sorted bs m ts st Message b h.1.1.0 refl h.1.1.1.1))
    term_sorted bs m ts st s (constant True) u vs h =
        at_sort bs m ts st s Boolean u formula.truth h.0 h.1
        (application-sorted g fits.builtin kind.truth ts nil refl refl refl)
    term_sorted bs m ts st s (constant False) u vs h =
        at_sort bs m ts st s Boolean u formula.falsity h.0 h.1
        (application-sorted g fits.builtin kind.falsity ts nil refl refl refl)
    term_sorted bs m ts st s (constant Empty) u vs h =
        at_sort bs m ts st s Message u formula.empty h.0 h.1
        (application-sorted g fits.builtin kind.empty ts nil refl refl refl)
    term_sorted bs m ts st s (constant Init) u vs h =
        let no_value : is_value_sort Timestamp ≡ true = ap is_value_sort (sym h.0) ∙ vs in
        absurd (false≢true no_value)
    term_sorted bs m ts st s (conditional a b d) u vs h =
        at_sort bs m ts st s Message u (formula.conditional h.1.0 h.1.1.0 h.1.1.1.0) h.0
        h.1.1.1.1.3
        (three_sorted bs m ts st kind.conditional h.1.0 h.1.1.0 h.1.1.1.0 refl refl
        (term_sorted bs m ts st Boolean a h.1.0 refl h.1.1.1.1.0)
        (term_sorted bs m ts st Message b h.1.1.0 refl h.1.1.1.1.1)
        (term_sorted bs m ts st Message d h.1.1.1.0 refl h.1.1.1.1.2))
    term_sorted bs m ts st s (find ns a b d) u vs h =
        let n = length ns in
        let is = bs ++ group_variables Index ns in
        let rs = replicate n Index ++ ts in
        let inner =
        subst (λ (l : List Sort). Stands (m + n) l rs) (sym (indices_around bs ns))
        (all_pushed n m (binder_sorts bs) ts st) in
        at_sort bs m ts st s Message u (t.find n h.1.0 h.1.1.0 h.1.1.1.0) h.0 h.1.1.1.1.3
        (and_both (has_sort g rs Boolean (map_term put (m + n) h.1.0))
        (has_sort g rs Message (map_term put (m + n) h.1.1.0)
        && has_sort g ts Message (map_term put m h.1.1.1.0))
        (term_sorted is (m + n) rs inner Boolean a h.1.0 refl h.1.1.1.1.0)
        (and_both (has_sort g rs Message (map_term put (m + n) h.1.1.0))
        (has_sort g ts Message (map_term put m h.1.1.1.0))
        (term_sorted is (m + n) rs inner Message b h.1.1.0 refl h.1.1.1.1.1)
        (term_sorted bs m ts st Message d h.1.1.1.0 refl h.1.1.1.1.2)))
    term_sorted bs m ts st s (diff a b) u vs h =
        at_sort bs m ts st s s u (t.diff h.0 h.1.0) refl h.1.1.2
        (and_both (has_sort g ts s (map_term put m h.0)) (has_sort g ts s (map_term put m h.1.0))
        (term_sorted bs m ts st s a h.0 vs h.1.1.0)
        (term_sorted bs m ts st s b h.1.0 vs h.1.1.1))
    term_sorted bs m ts st s (unary Not a) u vs h =
        at_sort bs m ts st s Boolean u (formula.negation h.1.0) h.0 h.1.1.1
        (one_sorted bs m ts st kind.negation h.1.0 refl refl
        (term_sorted bs m ts st Boolean a h.1.0 refl h.1.1.0))
    term_sorted bs m ts st s (unary Fst a) u vs h =
        at_sort bs m ts st s Message u (formula.first h.1.0) h.0 h.1.1.1
        (one_sorted bs m ts st kind.first h.1.0 refl refl
        (term_sorted bs m ts st Message a h.1.0 refl h.1.1.0))
    term_sorted bs m ts st s (unary Snd a) u vs h =
        at_sort bs m ts st s Message u (formula.second h.1.0) h.0 h.1.1.1
        (one_sorted bs m ts st kind.second h.1.0 refl refl
        (term_sorted bs m ts st Message a h.1.0 refl h.1.1.0))
    term_sorted bs m ts st s (unary OfBool a) u vs h =
        at_sort bs m ts st s Message u (formula.of_bool h.1.0) h.0 h.1.1.1
        (one_sorted bs m ts st kind.of_bool h.1.0 refl refl
        (term_sorted bs m ts st Boolean a h.1.0 refl h.1.1.0))
    term_sorted bs m ts st s (unary Happens a) u vs h =
        at_sort bs m ts st s Boolean u (t.happens h.1.0) h.0 h.1.1.1
        (time_sorted bs m ts st a h.1.0 h.1.1.0)
    term_sorted bs m ts st s (unary Pred a) u vs h = absurd h
    term_sorted bs m ts st s (value w a) u vs h =
        let own = macro_sort (macro_of w) in
        at_sort bs m ts st s own u (t.macro (macro_of w) h.1.0) h.0 h.1.1.1
        (and_both (is_same_sort own own) (is_timestamp g ts (map_ts put m h.1.0))
        ((is_same_sort-decides own own).1 refl) (time_sorted bs m ts st a h.1.0 h.1.1.0))
    term_sorted bs m ts st s (name x) u vs h =
        value_sorted bs m ts st s 0 h.0 h.1.0 (AreIndices c bs none) (λ i r. r ≡ ([], nil)) u
        h.1.1.1 (meant c g values fits bs x h.0 h.1.1.0.0) h.1.1.0.1
        (λ is k. indices_of_trees bs m ts st none is k)
        (λ i k r n e. no_arguments bs m ts st i k r n e) h.1.1.2
    term_sorted bs m ts st s (apply x xs) u vs h =
        value_sorted bs m ts st s (count_trees xs) h.0 h.1.0 (AreIndices c bs xs)
        (λ i. AreArguments c bs i xs) u h.1.1.1 (meant c g values fits bs x h.0 h.1.1.0.0)
        h.1.1.0.1 (λ is k. indices_of_trees bs m ts st xs is k)
        (λ i k r n e. arguments_sorted bs m ts st i k xs r n e) h.1.1.2

    arguments_sorted : (bs : List Variable) (m : ℕ) (ts : List Sort)
        → (st : Stands m (binder_sorts bs) ts) → (i k : ℕ) (xs : FormulaTrees)
        (r : List Idx × TermTrees) → count_trees xs ≡ i + k → AreArguments c bs i xs r
        → Arguments bs m ts st i k r
    arguments_sorted bs m ts st zero k none r n e = no_arguments bs m ts st zero k r n e
    arguments_sorted bs m ts st (suc i) k none r n e = no_arguments bs m ts st (suc i) k r n e
    arguments_sorted bs m ts st zero k (more a xs) r n e =
        let rest = messages_sorted bs m ts st xs e.1.0 e.1.1.1 in
        let count = rest.0 in
        let many : suc (count_terms e.1.0) ≡ k = omega arith in
        subst (λ (p : List Idx × TermTrees). Arguments bs m ts st zero k p) (sym e.1.1.2)
        ((refl, refl), many, (term_sorted bs m ts st Message a e.0 refl e.1.1.0, rest.1))
    arguments_sorted bs m ts st (suc i) k (more a xs) r n e =
        let fewer : count_trees xs ≡ i + k = omega arith in
        let rest = arguments_sorted bs m ts st i k xs e.1.0 fewer e.1.1.1 in
        subst (λ (p : List Idx × TermTrees). Arguments bs m ts st (suc i) k p) (sym e.1.1.2) (
          (
            ap suc rest.0.0,
            and_both (is_index g ts (put.index m e.0))
                (are_indices g ts (map (put.index m) e.1.0.0))
                (index_sorted bs m ts st a e.0 e.1.1.0)
                rest.0.1,
          ),
          rest.1,
          rest.2,
        )

    messages_sorted : (bs : List Variable) (m : ℕ) (ts : List Sort)
        → (st : Stands m (binder_sorts bs) ts) → (xs : FormulaTrees) (us : TermTrees)
        → AreMessages c bs xs us
        → (count_terms us ≡ count_trees xs) × AreSortedMessages bs m ts st us
    messages_sorted bs m ts st none us e =
        (ap count_terms e, subst (AreSortedMessages bs m ts st) (sym e) tt)
    messages_sorted bs m ts st (more a xs) us e =
        let rest = messages_sorted bs m ts st xs e.1.0 e.1.1.1 in
        let count = rest.0 in
        let first : count_terms us ≡ suc (count_terms e.1.0) = ap count_terms e.1.1.2 in (
          omega (arith, count, first),
          subst (AreSortedMessages bs m ts st) (sym e.1.1.2)
              (term_sorted bs m ts st Message a e.0 refl e.1.1.0, rest.1),
        )

-- ---- from outside

no_outer : (m k : ℕ) → past [] m k ≡ None
no_outer m k = by (nat_le m k)
  where
    by : (q : Bool) → (if q then slice_get {X = ArgTree} [] (k - m) else None) ≡ None
    by true = refl
    by false = refl

-- where nothing is put in, the term stays
abbrev nothing_put : Leaves
nothing_put = substitution [] [] []

index_stays : (m : ℕ) (i : Idx) → nothing_put.index m i ≡ i
index_stays m (idx.Free k) = refl
index_stays m (idx.Bound k) = ap (λ (o : Option ArgTree). index_or o (idx.Bound k)) (no_outer m k)

unfilled : (u : TermTree) → filled [] [] u ≡ u
unfilled u =
    term_stays nothing_put no_tests (λ m i q. index_stays m i) (λ m k q. refl)
    (λ m k q. ap (λ (o : Option ArgTree). time_or o (t.bound k)) (no_outer m k)) (λ m k q. refl) 0 u
    (passes_none 0 u)

-- where no variable is put in
pub kept : (c : Context) (g : Signature) (values : List TermTree) (fits : Fits c g values)
    (bs : List Variable) (s : Sort) (f : FormulaTree) (u : TermTree) → is_value_sort s ≡ true
    → IsTerm c bs s f u → has_sort g (binder_sorts bs) s (filled values [] u) ≡ true
kept c g values fits bs s f u vs h =
    term_sorted c g values fits [] none_free bs 0 (binder_sorts bs) (index, time) s f u vs h
  where
    none_free : AreFreeIndices g []
    none_free k a e = let n : ⊥ = cc in absurd n

    index : (k : ℕ) → has_sort_at (binder_sorts bs) k Index ≡ true
        → is_index g (binder_sorts bs) ((substitution [] [] values).index 0 (idx.Bound k)) ≡ true
    index k e = ap (λ (o : Option ArgTree). is_index g (binder_sorts bs) (index_or o (idx.Bound k)))
        (no_outer 0 k) ∙ e

    time : (k : ℕ) → has_sort_at (binder_sorts bs) k Timestamp ≡ true
        → has_sort_at (binder_sorts bs) k Timestamp ≡ true
    time k e = e

-- where nothing is put in
pub unchanged : (c : Context) (g : Signature) (fits : Fits c g []) (bs : List Variable) (s : Sort)
    (f : FormulaTree) (u : TermTree) → is_value_sort s ≡ true → IsTerm c bs s f u
    → has_sort g (binder_sorts bs) s u ≡ true
unchanged c g fits bs s f u vs h =
    subst (λ (w : TermTree). has_sort g (binder_sorts bs) s w ≡ true) (unfilled u)
    (kept c g [] fits bs s f u vs h)

-- where indices of the signature are put in the places of all binders around
pub opened : (c : Context) (g : Signature) (values : List TermTree) (fits : Fits c g values)
    (ns : List (List ℕ)) (outer : List ArgTree) → length outer ≡ length ns → AreFreeIndices g outer
    → (s : Sort) (f : FormulaTree) (u : TermTree) → is_value_sort s ≡ true
    → IsTerm c (group_variables Index ns) s f u → has_sort g [] s (filled values outer u) ≡ true
opened c g values fits ns outer many are_free s f u vs h =
    term_sorted c g values fits outer are_free (group_variables Index ns) 0 []
    (subst (λ (l : List Sort). Stands c g values fits outer are_free 0 l [])
    (sym (indices_around [] ns)) (index, time)) s f u vs h
  where
    within : (n k : ℕ) (r : Sort) → has_sort_at (replicate n Index ++ []) k r ≡ true → k < n
    within zero k r e = absurd (false≢true e)
    within (suc n) zero r e = omega arith
    within (suc n) (suc k) r e = let low = within n k r e in omega arith

    there : (xs : List ArgTree) (k : ℕ) → k < length xs → (a : ArgTree) × (slice_get xs k ≡ Some a)
    there [] k e = absurd (omega arith)
    there (x ∷ xs) zero e = (x, refl)
    there (x ∷ xs) (suc k) e = there xs k (omega arith)

    placed : (k : ℕ) (a : ArgTree) → IsFreeIndex g a
        → is_index g [] (index_or (Some a) (idx.Bound k)) ≡ true
    placed k (an_index (idx.Free j)) e = e
    placed k (an_index (idx.Bound j)) e = absurd e
    placed k (a_time v) e = absurd e

    index : (k : ℕ) → has_sort_at (replicate (length ns) Index ++ []) k Index ≡ true
        → is_index g [] ((substitution [] outer values).index 0 (idx.Bound k)) ≡ true
    index k e =
        let low = within (length ns) k Index e in
        let few : k < length outer = omega (arith, many, low) in
        let at = there outer k few in
        let reached : nat_le 0 k ≡ true = grind (arith, nat_tests) in
        let place : k - 0 ≡ k = omega arith in
        let is : past outer 0 k ≡ Some at.0 =
        (λ i. if reached i then slice_get outer (place i) else None) ∙ at.1 in
        ap (λ (o : Option ArgTree). is_index g [] (index_or o (idx.Bound k))) is
        ∙ placed k at.0 (are_free k at.0 at.1)

    no_time : (n k : ℕ) → has_sort_at (replicate n Index ++ []) k Timestamp ≡ true → ⊥
    no_time zero k e = false≢true e
    no_time (suc n) zero e = false≢true e
    no_time (suc n) (suc k) e = no_time n k e

    time : (k : ℕ) → has_sort_at (replicate (length ns) Index ++ []) k Timestamp ≡ true
        → has_sort_at [] k Timestamp ≡ true
    time k e = absurd (no_time (length ns) k e)
