-- The facts of time may stand in the sequent: they are well-sorted trace formulas over its
-- variables.
use Rattle.std.proofs.Common.{◌≡◌, refl, sym, ap, ◌∙◌, subst, ℕ, zero, suc, ◌+◌, ◌<◌, ◌≤◌, List, []}
use Rattle.std.proofs.Common.{◌∷◌, length, map, take, drop, Option, Some, None, Bool, true, false}
use Rattle.std.proofs.Common.{arith}
use Rattle.std.specs.Prelude.{◌==◌, ◌&&◌, not, if◌then◌else◌, slice_get, get_or, IfSome}
use Rattle.std.proofs.lemmas.Bool.{eqb-true, eq-eqb}
use Rattle.sq_base.specs.declared.sort.Sort.{Sort}
use Rattle.sq_base.specs.declared.sort.Sort.TheVariants.{Boolean, Index, Timestamp}
use Rattle.sq_term.specs.declared.term.Idx.{Idx}
use Rattle.sq_term.specs.declared.term.Idx.TheVariants.{Free, Bound}
use Rattle.sq_term.specs.declared.term.Side.TheVariants.{Left, Right, Both}
use Rattle.sq_term.specs.Formulas as formula
use Rattle.sq_term.specs.Lists.{Member, here, there, Each}
use Rattle.sq_term.specs.Pure.{is_pure}
use Rattle.sq_term.specs.Syntax.{TsTree, free, bound, init, pred, action, TermTree, le, ts_eq}
use Rattle.sq_term.specs.Symbols as kind
use Rattle.sq_term.specs.Syntax.{idx_eq, happens, some, nil}
use Rattle.sq_term.specs.Systems.{SystemTree, ActionTree, Choice, no_action, action_at}
use Rattle.sq_term.specs.TreeEquality.{is_same_tree}
use Rattle.sq_term.proofs.BoolTests.{and_split, and_both}
use Rattle.sq_term.proofs.Members.{each_none, each_cons}
use Rattle.sq_typing.specs.Diffs.{holds_diff}
use Rattle.sq_typing.specs.Functions.{are_functions}
use Rattle.sq_typing.specs.Standing.{Subject, of_trace, of_side, suits, may_stand}
use Rattle.sq_typing.specs.Typing.{Signature, has_count_at, has_sort_at, is_index, are_indices}
use Rattle.sq_typing.specs.Typing.{is_timestamp, has_sort}
use Rattle.sq_typing.proofs.Formulas.{stands, application-sorted, falsity-stands, negation-stands}
use Rattle.sq_typing.proofs.Formulas.{both-stands, either-stands, implies-stands}
use Rattle.sq_system.specs.Facts.{IsParent, IsAction, IsSystem}
use Rattle.sq_formula.specs.Facts.{some_indices}
use Rattle.sq_occ.specs.Facts.{conj_of, disj_of_all, without, distinct, disj_of, equations}
use Rattle.sq_rules_trace.specs.ActionFacts.{same_indices, one_action, two_actions, o8}
use Rattle.sq_rules_trace.specs.ActionFacts.{indices_of_binders, is_some_instance, instances_from}
use Rattle.sq_rules_trace.specs.ActionFacts.{o9, is_before, after_parent, o11, agree, agree_further}
use Rattle.sq_rules_trace.specs.ActionFacts.{excluded, determined, o12}
use Rattle.sq_rules_trace.specs.OrderFacts.{o1, o2, o3, o4, o5, o6, o7, o10}

-- ---- lists without repeats

each-without : (P : TermTree → Type 0) (t : TermTree) (us : List TermTree) → Each P us
    → Each P (without t us)
each-without P t [] h = h
each-without P t (u ∷ us) h =
    kept (is_same_tree t u) (each-without P t us (λ x i. h x (there i)))
  where
    kept : (b : Bool) → Each P (without t us)
        → Each P (if b then without t us else u ∷ without t us)
    kept true r = r
    kept false r = each_cons u (without t us) P (h u here) r

each-distinct : (P : TermTree → Type 0) (ts : List TermTree) → Each P ts → Each P (distinct ts)
each-distinct P [] h = h
each-distinct P (t ∷ ts) h =
    each_cons t (without t (distinct ts)) P (h t here)
    (each-without P t (distinct ts) (each-distinct P ts (λ x i. h x (there i))))

-- ---- below binders of indices

-- the sorts of n more binders of indices
abbrev more_indices : ℕ → List Sort → List Sort
more_indices zero bs = bs
more_indices (suc n) bs = more_indices n (Index ∷ bs)

index_behind : (n k : ℕ) (bs : List Sort) (q : ℕ) → has_sort_at bs k Index ≡ true → q ≡ n + k
    → has_sort_at (more_indices n bs) q Index ≡ true
index_behind zero k bs q h e =
    let f : k ≡ q = omega (arith, e) in subst (λ j. has_sort_at bs j Index ≡ true) f h
index_behind (suc n) k bs q h e = index_behind n (suc k) (Index ∷ bs) q h (omega (arith, e))

pure_below : (n : ℕ) (t : TermTree) → is_pure t ≡ true → is_pure (some_indices n t) ≡ true
pure_below zero t h = h
pure_below (suc n) t h = pure_below n t h

no_diff_below : (n : ℕ) (t : TermTree) → holds_diff t ≡ false
    → holds_diff (some_indices n t) ≡ false
no_diff_below zero t h = h
no_diff_below (suc n) t h = no_diff_below n t h

nothing_bound : {P : Type 0} → false ≡ true → P
nothing_bound e = absurd (let f : false ≡ true = e in cc)

module _ (g : Signature) where
  pub index_anywhere : (i : Idx) (bs : List Sort) → is_index g [] i ≡ true → is_index g bs i ≡ true
  index_anywhere (Free k) bs h = h
  index_anywhere (Bound k) bs h = nothing_bound h

  indices_anywhere : (is : List Idx) (bs : List Sort) → are_indices g [] is ≡ true
      → are_indices g bs is ≡ true
  indices_anywhere [] bs h = refl
  indices_anywhere (i ∷ is) bs h =
      let p = and_split (is_index g [] i) (are_indices g [] is) h in
      and_both (is_index g bs i) (are_indices g bs is) (index_anywhere i bs p.0)
      (indices_anywhere is bs p.1)

  pub time_anywhere : (t : TsTree) (bs : List Sort) → is_timestamp g [] t ≡ true
      → is_timestamp g bs t ≡ true
  time_anywhere (free k) bs h = h
  time_anywhere (bound k) bs h = nothing_bound h
  time_anywhere init bs h = refl
  time_anywhere (pred t) bs h = time_anywhere t bs h
  time_anywhere (action n is) bs h =
      let p = and_split (has_count_at g.actions n (length is)) (are_indices g [] is) h in
      and_both (has_count_at g.actions n (length is)) (are_indices g bs is) p.0
      (indices_anywhere is bs p.1)

  some_sorted : (n : ℕ) (bs : List Sort) (t : TermTree)
      → has_sort g (more_indices n bs) Boolean t ≡ true
      → has_sort g bs Boolean (some_indices n t) ≡ true
  some_sorted zero bs t h = h
  some_sorted (suc n) bs t h = some_sorted n (Index ∷ bs) t h

  -- the first n bound variables, and others behind them
  binders_sorted : (n : ℕ) (bs : List Sort)
      → are_indices g (more_indices n bs) (indices_of_binders n) ≡ true
  binders_sorted zero bs = refl
  binders_sorted (suc n) bs =
      and_both (has_sort_at (more_indices n (Index ∷ bs)) n Index)
      (are_indices g (more_indices n (Index ∷ bs)) (indices_of_binders n))
      (index_behind n 0 (Index ∷ bs) n refl (omega arith)) (binders_sorted n (Index ∷ bs))

  front_sorted : (n : ℕ) (is : List Idx) → are_indices g [] is ≡ true
      → are_indices g [] (take n is) ≡ true
  front_sorted zero is h = refl
  front_sorted (suc n) [] h = refl
  front_sorted (suc n) (i ∷ is) h =
      let p = and_split (is_index g [] i) (are_indices g [] is) h in
      and_both (is_index g [] i) (are_indices g [] (take n is)) p.0 (front_sorted n is p.1)

  rest_sorted : (n : ℕ) (is : List Idx) → are_indices g [] is ≡ true
      → are_indices g [] (drop n is) ≡ true
  rest_sorted zero is h = h
  rest_sorted (suc n) [] h = refl
  rest_sorted (suc n) (i ∷ is) h =
      rest_sorted n is (and_split (is_index g [] i) (are_indices g [] is) h).1

binders_long : (n : ℕ) → length (indices_of_binders n) ≡ n
binders_long zero = refl
binders_long (suc n) = ap suc (binders_long n)

-- ---- formulas

module _ (g : Signature) (ok : are_functions g.funs ≡ true) (about : Subject) where
  -- the formula may stand
  pub record Stands (F : TermTree) : Type 0 where
    pub so : may_stand g about Boolean F ≡ true

  abbrev Time : TsTree → Type 0
  Time t = is_timestamp g [] t ≡ true

  abbrev Indices : List Idx → Type 0
  Indices is = are_indices g [] is ≡ true

  suits_all : (who : Subject) (F : TermTree) → is_pure F ≡ true → holds_diff F ≡ false
      → suits who F ≡ true
  suits_all of_trace F p d = p
  suits_all (of_side Both) F p d = refl
  suits_all (of_side Left) F p d = ap not d
  suits_all (of_side Right) F p d = ap not d

  pub trace_formula : (F : TermTree) → has_sort g [] Boolean F ≡ true → is_pure F ≡ true
      → holds_diff F ≡ false → Stands F
  trace_formula F h p d = record { so = stands g about Boolean F h (suits_all about F p d) }

  hap : (t : TsTree) → Time t → Stands (happens t)
  hap t h = trace_formula (happens t) h refl refl

  upto : (t s : TsTree) → Time t → Time s → Stands (le t s)
  upto t s h k = trace_formula (le t s) (and_both _ _ h k) refl refl

  same : (t s : TsTree) → Time t → Time s → Stands (ts_eq t s)
  same t s h k = trace_formula (ts_eq t s) (and_both _ _ h k) refl refl

  no : (a : TermTree) → Stands a → Stands (formula.negation a)
  no a h = record { so = negation-stands g ok about a h.so }

  also : (a b : TermTree) → Stands a → Stands b → Stands (formula.both a b)
  also a b h k = record { so = both-stands g ok about a b h.so k.so }

  or : (a b : TermTree) → Stands a → Stands b → Stands (formula.either a b)
  or a b h k = record { so = either-stands g ok about a b h.so k.so }

  imp : (a b : TermTree) → Stands a → Stands b → Stands (formula.implies a b)
  imp a b h k = record { so = implies-stands g ok about a b h.so k.so }

  -- ---- order

  pub o1_stands : (t : TsTree) → Time t → Stands (o1 t)
  o1_stands t h = imp (happens t) (le t t) (hap t h) (upto t t h h)

  pub o2_stands : (t s r : TsTree) → Time t → Time s → Time r → Stands (o2 t s r)
  o2_stands t s r h k l =
      imp (le t s) (formula.implies (le s r) (le t r)) (upto t s h k)
      (imp (le s r) (le t r) (upto s r k l) (upto t r h l))

  pub o3_stands : (t s : TsTree) → Time t → Time s → Stands (o3 t s)
  o3_stands t s h k =
      imp (le t s) (formula.implies (le s t) (ts_eq t s)) (upto t s h k)
      (imp (le s t) (ts_eq t s) (upto s t k h) (same t s h k))

  pub o4_stands : (t s : TsTree) → Time t → Time s → Stands (o4 t s)
  o4_stands t s h k =
      imp (happens t) (formula.implies (happens s) (formula.either (le t s) (le s t))) (hap t h)
      (imp (happens s) (formula.either (le t s) (le s t)) (hap s k)
      (or (le t s) (le s t) (upto t s h k) (upto s t k h)))

  pub o5_stands : (t s : TsTree) → Time t → Time s → Stands (o5 t s)
  o5_stands t s h k =
      also (formula.implies (le t s) (formula.both (happens t) (happens s)))
      (formula.either (happens t) (formula.either (happens s) (ts_eq t s)))
      (imp (le t s) (formula.both (happens t) (happens s)) (upto t s h k)
      (also (happens t) (happens s) (hap t h) (hap s k)))
      (or (happens t) (formula.either (happens s) (ts_eq t s)) (hap t h)
      (or (happens s) (ts_eq t s) (hap s k) (same t s h k)))

  pub o6_stands : (t : TsTree) → Time t → Stands (o6 t)
  o6_stands t h =
      also (happens init) (formula.implies (happens t) (le init t)) (hap init refl)
      (imp (happens t) (le init t) (hap t h) (upto init t refl h))

  before_stands : (t s : TsTree) → Time t → Time s → Stands (is_before t s)
  before_stands t s h k =
      also (le t s) (formula.negation (ts_eq t s)) (upto t s h k)
      (no (ts_eq t s) (same t s h k))

  pub o7_stands : (t : TsTree) → Time t → Stands (o7 t)
  o7_stands t h =
      also (formula.implies (happens (pred t)) (is_before (pred t) t))
      (formula.both
      (formula.implies (happens t)
      (formula.implies (formula.negation (ts_eq t init)) (happens (pred t))))
      (formula.negation (happens (pred init))))
      (imp (happens (pred t)) (is_before (pred t) t) (hap (pred t) h)
      (before_stands (pred t) t h h))
      (also
      (formula.implies (happens t)
      (formula.implies (formula.negation (ts_eq t init)) (happens (pred t))))
      (formula.negation (happens (pred init)))
      (imp (happens t) (formula.implies (formula.negation (ts_eq t init)) (happens (pred t)))
      (hap t h)
      (imp (formula.negation (ts_eq t init)) (happens (pred t))
      (no (ts_eq t init) (same t init h refl)) (hap (pred t) h)))
      (no (happens (pred init)) (hap (pred init) refl)))

  pub o10_stands : (t s : TsTree) → Time t → Time s → Stands (o10 t s)
  o10_stands t s h k =
      imp (le t s) (formula.implies (formula.negation (ts_eq t s)) (le t (pred s))) (upto t s h k)
      (imp (formula.negation (ts_eq t s)) (le t (pred s)) (no (ts_eq t s) (same t s h k))
      (upto t (pred s) h k))

  -- ---- lists

  truth_stands : Stands formula.truth
  truth_stands =
      trace_formula formula.truth (application-sorted g ok kind.truth [] nil refl refl refl) refl
      refl

  conj_stands : (ts : List TermTree) → Each Stands ts → Stands (conj_of ts)
  conj_stands [] h = truth_stands
  conj_stands (t ∷ []) h = h t here
  conj_stands (t ∷ u ∷ rest) h =
      also t (conj_of (u ∷ rest)) (h t here) (conj_stands (u ∷ rest) (λ x i. h x (there i)))

  all_disj_stands : (ts : List TermTree) → Each Stands ts → Stands (disj_of_all ts)
  all_disj_stands [] h = record { so = falsity-stands g ok about }
  all_disj_stands (t ∷ []) h = h t here
  all_disj_stands (t ∷ u ∷ rest) h =
      or t (disj_of_all (u ∷ rest)) (h t here) (all_disj_stands (u ∷ rest) (λ x i. h x (there i)))

  disj_stands : (ts : List TermTree) → Each Stands ts → Stands (disj_of ts)
  disj_stands ts h = all_disj_stands (distinct ts) (each-distinct Stands ts h)

  equations_stand : (is js : List Idx) → Indices is → Indices js → Each Stands (equations is js)
  equations_stand [] js h k = each_none Stands
  equations_stand (i ∷ is) [] h k = each_none Stands
  equations_stand (i ∷ is) (j ∷ js) h k =
      let p = and_split (is_index g [] i) (are_indices g [] is) h in
      let q = and_split (is_index g [] j) (are_indices g [] js) k in
      each_cons (idx_eq i j) (equations is js) Stands
      (trace_formula (idx_eq i j) (and_both _ _ p.0 q.0) refl refl)
      (equations_stand is js p.1 q.1)

  same_stands : (is js : List Idx) → Indices is → Indices js → Stands (same_indices is js)
  same_stands is js h k = conj_stands (equations is js) (equations_stand is js h k)

  -- ---- instances

  pub its_indices : (a : ℕ) (is : List Idx) → Time (action a is) → Indices is
  its_indices a is h = (and_split (has_count_at g.actions a (length is)) (are_indices g [] is) h).1

  pub o8_stands : (a b : ℕ) (is js : List Idx) → Time (action a is) → Time (action b js)
      → Stands (o8 a is b js)
  o8_stands a b is js h k = by_test (a == b) refl
    where
      by_test : (e : Bool) → (a == b) ≡ e
          → Stands (if e then one_action a is js else two_actions a is b js)
      by_test true e =
          let z : Time (action a js) =
          subst (λ n. Time (action n js)) (sym (eqb-true a b e)) k in
          imp (happens (action a is))
          (formula.implies (ts_eq (action a is) (action a js)) (same_indices is js))
          (hap (action a is) h)
          (imp (ts_eq (action a is) (action a js)) (same_indices is js)
          (same (action a is) (action a js) h z)
          (same_stands is js (its_indices a is h) (its_indices b js k)))
      by_test false e =
          imp (happens (action a is)) (formula.negation (ts_eq (action a is) (action b js)))
          (hap (action a is) h)
          (no (ts_eq (action a is) (action b js)) (same (action a is) (action b js) h k))

  -- an instance at bound indices
  some_stands : (t : TsTree) (n : ℕ) (a : ActionTree) → Time t
      → has_count_at g.actions n a.arity ≡ true → Stands (is_some_instance t n a)
  some_stands t n a h c =
      let inner : TermTree = ts_eq t (action n (indices_of_binders a.arity)) in
      let bs : List Sort = more_indices a.arity [] in
      let many : has_count_at g.actions n (length (indices_of_binders a.arity)) ≡ true =
      subst (λ k. has_count_at g.actions n k ≡ true) (sym (binders_long a.arity)) c in
      let sorted : has_sort g bs Boolean inner ≡ true =
      and_both (is_timestamp g bs t)
      (is_timestamp g bs (action n (indices_of_binders a.arity)))
      (time_anywhere g t bs h)
      (and_both (has_count_at g.actions n (length (indices_of_binders a.arity)))
      (are_indices g bs (indices_of_binders a.arity)) many (binders_sorted g a.arity [])) in
      trace_formula (some_indices a.arity inner) (some_sorted g a.arity [] inner sorted)
      (pure_below a.arity inner refl) (no_diff_below a.arity inner refl)

  instances_stand : (t : TsTree) (n : ℕ) (xs : List ActionTree) → Time t
      → ((k : ℕ) → k < length xs
      → has_count_at g.actions (n + k) (get_or xs k no_action).arity ≡ true)
      → Each Stands (instances_from t n xs)
  instances_stand t n [] h c = each_none Stands
  instances_stand t n (a ∷ rest) h c =
      let e : n + 0 ≡ n = omega arith in
      let first : has_count_at g.actions n a.arity ≡ true =
      subst (λ k. has_count_at g.actions k a.arity ≡ true) e (c 0 (omega arith)) in
      each_cons (is_some_instance t n a) (instances_from t (suc n) rest) Stands
      (some_stands t n a h first)
      (instances_stand t (suc n) rest h (λ k l.
      let f : n + suc k ≡ suc n + k = omega arith in
      subst (λ j. has_count_at g.actions j (get_or rest k no_action).arity ≡ true) f
      (c (suc k) (omega arith))))

  module _ (s : SystemTree) (of_system : g.actions ≡ map (λ (a : ActionTree). a.arity) s.actions)
    where
      counted : (xs : List ActionTree) (k : ℕ) → k < length xs
          → has_count_at (map (λ (a : ActionTree). a.arity) xs) k
          (get_or xs k no_action).arity ≡ true
      counted [] k l = absurd (omega arith)
      counted (x ∷ xs) zero l = eq-eqb x.arity x.arity refl
      counted (x ∷ xs) (suc k) l = counted xs k (omega arith)

      -- an action of the system with its count of indices
      count_of : (k : ℕ) → k < length s.actions
          → has_count_at g.actions k (action_at s k).arity ≡ true
      count_of k l =
          subst (λ cs. has_count_at cs k (action_at s k).arity ≡ true) (sym of_system)
          (counted s.actions k l)

      pub o9_stands : (t : TsTree) → Time t → Stands (o9 s t)
      o9_stands t h =
          imp (happens t) (disj_of (ts_eq t init ∷ instances_from t 0 s.actions)) (hap t h)
          (disj_stands (ts_eq t init ∷ instances_from t 0 s.actions)
          (each_cons (ts_eq t init) (instances_from t 0 s.actions) Stands (same t init h refl)
          (instances_stand t 0 s.actions h (λ k l.
          let e : k ≡ 0 + k = omega arith in
          subst (λ j. has_count_at g.actions j (get_or s.actions k no_action).arity ≡ true) e
          (count_of k l)))))

      -- what the action of an instance is
      found : (xs : List ActionTree) (k n : ℕ)
          → has_count_at (map (λ (a : ActionTree). a.arity) xs) k n ≡ true
          → (slice_get xs k ≡ Some (get_or xs k no_action)) × ((get_or xs k no_action).arity ≡ n)
      found [] k n h = nothing_bound h
      found (x ∷ xs) zero n h = (refl, eqb-true x.arity n h)
      found (x ∷ xs) (suc k) n h = found xs k n h

      pub there_is : (a : ℕ) (is : List Idx) → Time (action a is)
          → (slice_get s.actions a ≡ Some (action_at s a)) × ((action_at s a).arity ≡ length is)
      there_is a is h =
          found s.actions a (length is)
          (subst (λ cs. has_count_at cs a (length is) ≡ true) of_system
          (and_split (has_count_at g.actions a (length is)) (are_indices g [] is) h).0)

      take_long : (n : ℕ) (is : List Idx) → n ≤ length is → length (take n is) ≡ n
      take_long zero is l = refl
      take_long (suc n) [] l = absurd (omega arith)
      take_long (suc n) (i ∷ is) l = ap suc (take_long n is (omega arith))

      pub within : (xs : List ActionTree) (k : ℕ) (x : ActionTree) → slice_get xs k ≡ Some x
          → (k < length xs) × (get_or xs k no_action ≡ x)
      within [] k x e = absurd (let f : None ≡ Some x = e in cc)
      within (y ∷ ys) zero x e = let f : y ≡ x = cc in (omega arith, f)
      within (y ∷ ys) (suc k) x e =
          let r = within ys k x e in
          let l : k < length ys = r.0 in
          (omega arith, r.1)

      module _ (facts : IsSystem s) where
        parent_time : (a p : ℕ) (is : List Idx) → Time (action a is)
            → (action_at s a).parent ≡ Some p
            → Time (action p (take (action_at s p).arity is))
        parent_time a p is h e =
            let x = there_is a is h in
            let f : IsAction s a (action_at s a) = facts a (action_at s a) x.0 in
            let q : IsParent s a (action_at s a).arity p =
            subst (λ o. IfSome o (IsParent s a (action_at s a).arity)) e f.parent_is in
            let r = within s.actions p q.there q.there_is in
            let l : (action_at s p).arity ≤ length is =
            subst (λ (y : ActionTree). y.arity ≤ length is) (sym r.1)
            (subst (λ n. q.there.arity ≤ n) x.1 q.fewer) in
            and_both (has_count_at g.actions p (length (take (action_at s p).arity is)))
            (are_indices g [] (take (action_at s p).arity is))
            (subst (λ n. has_count_at g.actions p n ≡ true)
            (sym (take_long (action_at s p).arity is l)) (count_of p r.0))
            (front_sorted g (action_at s p).arity is (its_indices a is h))

        pub o11_stands : (a : ℕ) (is : List Idx) → Time (action a is) → Stands (o11 s a is)
        o11_stands a is h = by_parent (action_at s a).parent refl
          where
            by_parent : (o : Option ℕ) → (action_at s a).parent ≡ o
                → Stands (after_parent s a is o)
            by_parent None e = no (ts_eq (action a is) init) (same (action a is) init h refl)
            by_parent (Some p) e =
                let parent : TsTree = action p (take (action_at s p).arity is) in
                also (formula.negation (ts_eq (action a is) init))
                (formula.implies (happens (action a is)) (is_before parent (action a is)))
                (no (ts_eq (action a is) init) (same (action a is) init h refl))
                (imp (happens (action a is)) (is_before parent (action a is)) (hap (action a is) h)
                (before_stands parent (action a is) (parent_time a p is h e) h))

  pub o12_stands : (a b : ℕ) (is js : List Idx) (c : Choice) → Time (action a is)
      → Time (action b js) → Stands (o12 a is b js c)
  o12_stands a b is js c h k = by_test (c.differ == 0)
    where
      agreeing : Stands (agree is js c)
      agreeing =
          same_stands (take c.agree is) (take c.agree js)
          (front_sorted g c.agree is (its_indices a is h))
          (front_sorted g c.agree js (its_indices b js k))

      further : Stands (agree_further is js c)
      further =
          same_stands (take c.differ (drop c.agree is)) (take c.differ (drop c.agree js))
          (front_sorted g c.differ (drop c.agree is)
          (rest_sorted g c.agree is (its_indices a is h)))
          (front_sorted g c.differ (drop c.agree js)
          (rest_sorted g c.agree js (its_indices b js k)))

      by_test : (e : Bool)
          → Stands (if e then excluded a is b js c else determined a is b js c)
      by_test true =
          imp (happens (action a is))
          (formula.implies (agree is js c) (formula.negation (happens (action b js))))
          (hap (action a is) h)
          (imp (agree is js c) (formula.negation (happens (action b js))) agreeing
          (no (happens (action b js)) (hap (action b js) k)))
      by_test false =
          imp (happens (action a is))
          (formula.implies (happens (action b js))
          (formula.implies (agree is js c) (agree_further is js c)))
          (hap (action a is) h)
          (imp (happens (action b js)) (formula.implies (agree is js c) (agree_further is js c))
          (hap (action b js) k) (imp (agree is js c) (agree_further is js c) agreeing further))
