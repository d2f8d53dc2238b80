-- The facts on instances of actions are true in every trace.
use Rattle.std.proofs.Common.{◌≡◌, refl, sym, ap, ◌∙◌, subst, ℕ, zero, suc, ◌+◌, ◌<◌, ◌≤◌, List}
use Rattle.std.proofs.Common.{[], ◌∷◌, length, map, take, drop, sum_by, Bool, true, false, arith}
use Rattle.std.specs.Prelude.{Option, Some, None, ◌==◌, ◌&&◌, ◌||◌, not, if◌then◌else◌, get_or}
use Rattle.std.specs.Prelude.{slice_get}
use Rattle.std.proofs.lemmas.Bool.{eqb-true, eq-eqb}
use Rattle.std.proofs.lemmas.List.{take-map, drop-map}
use Rattle.sq_term.specs.declared.model.Inst.{Inst}
use Rattle.sq_term.specs.declared.model.Model.{Model}
use Rattle.sq_term.specs.declared.model.Value.{Value}
use Rattle.sq_term.specs.declared.term.Idx.{Idx}
use Rattle.sq_term.specs.Closed.{ts_closed}
use Rattle.sq_term.specs.Formulas as formula
use Rattle.sq_term.specs.Ground.{Ground}
use Rattle.sq_term.specs.GroundFormulas.{truth_of, negation, both, implies}
use Rattle.sq_term.specs.Lists.{Member, here, there, ElementAt, same_numbers}
use Rattle.sq_term.specs.Macros.{GroundMacro}
use Rattle.sq_term.specs.Models.{are_below, place_from, times_of, IsTraceModel}
use Rattle.sq_term.specs.Syntax.{TsTree, init, action, TermTree, ts_eq}
use Rattle.sq_term.specs.Systems.{SystemTree, ActionTree, Choice, indices_bound, no_action}
use Rattle.sq_term.specs.Systems.{action_at, clash, is_separated}
use Rattle.sq_term.specs.Translate.{World, Assignment, idx_value, idx_values, ts_value, is_position}
use Rattle.sq_term.specs.Translate.{is_upto, is_same_time, translate}
use Rattle.sq_term.proofs.BoolTests.{and_both, same_numbers_itself, same_numbers-true}
use Rattle.sq_subst.proofs.Laws.{free_ts}
use Rattle.sq_system.specs.Facts.{IsAction, IsSystem}
use Rattle.sq_ground.specs.Truth.{value, IsTrueAt}
use Rattle.sq_formula.specs.Facts.{some_indices}
use Rattle.sq_occ.specs.Facts.{disj_of}
use Rattle.sq_occ.proofs.Formulas.{disj_from}
use Rattle.sq_rules_trace.specs.ActionFacts.{same_indices, one_action, two_actions, o8}
use Rattle.sq_rules_trace.specs.ActionFacts.{indices_of_binders, is_some_instance}
use Rattle.sq_rules_trace.specs.ActionFacts.{instances_from, o9, is_before, after_parent, o11}
use Rattle.sq_rules_trace.specs.ActionFacts.{agree, agree_further, excluded, determined, o12}
use Rattle.sq_rules_trace.proofs.Choosing.{agree_within}
use Rattle.sq_rules_trace.proofs.Chosen.{same_true, true_same, chosen, some_true, chosen_values}
use Rattle.sq_rules_trace.proofs.Exclusion.{unseparated}
use Rattle.sq_rules_trace.proofs.Instances.{IsAt, placed-at, at-placed, element_once, element_there}
use Rattle.sq_rules_trace.proofs.Instances.{below, parent_earlier}
use Rattle.sq_rules_trace.proofs.Order.{same_is, is_same, happens_at, earlier_upto}
use Rattle.sq_rules_trace.proofs.Order.{earlier_differs}
use Rattle.sq_rules_trace.proofs.Truths.{on, off, implied, denied, joined}

-- ---- lists

member-instances : (t : TsTree) (n k : ℕ) (xs : List ActionTree) (q : ℕ) → k < length xs
    → q ≡ n + k → Member (instances_from t n xs) (is_some_instance t q (get_or xs k no_action))
member-instances t n k [] q b e = absurd (omega arith)
member-instances t n zero (x ∷ rest) q b e =
    let f : n ≡ q = omega (arith, e) in
    subst (λ z. Member (instances_from t n (x ∷ rest)) (is_some_instance t z x)) f here
member-instances t n (suc k) (x ∷ rest) q b e =
    there (member-instances t (suc n) k rest q (omega arith) (omega (arith, e)))

pub within-slice : (xs : List ActionTree) (n : ℕ) → n < length xs
    → slice_get xs n ≡ Some (get_or xs n no_action)
within-slice [] n b = absurd (omega arith)
within-slice (x ∷ xs) zero b = refl
within-slice (x ∷ xs) (suc n) b = within-slice xs n (omega arith)

-- what no choice separates agrees behind what agrees
next_same : (is js : List ℕ) (c : Choice)
    → same_numbers (take c.agree is) (take c.agree js) ≡ true → is_separated is js c ≡ false
    → ((c.differ == 0) ≡ false)
    × (take c.differ (drop c.agree is) ≡ take c.differ (drop c.agree js))
next_same is js c e h =
    at (same_numbers (take c.agree is) (take c.agree js)) e (c.differ == 0) refl
    (same_numbers (take c.differ (drop c.agree is)) (take c.differ (drop c.agree js))) refl h
  where
    at : (p : Bool) → p ≡ true → (q : Bool) → (c.differ == 0) ≡ q → (r : Bool)
        → same_numbers (take c.differ (drop c.agree is)) (take c.differ (drop c.agree js)) ≡ r
        → (p && (q || not r)) ≡ false
        → ((c.differ == 0) ≡ false)
        × (take c.differ (drop c.agree is) ≡ take c.differ (drop c.agree js))
    at true f false g true k z = (g, same_numbers-true _ _ k)
    at true f false g false k z = absurd (let y : true ≡ false = z in cc)
    at true f true g r k z = absurd (let y : true ≡ false = z in cc)
    at false f q g r k z = absurd (cc)

take-long : {A B : Type 0} (n : ℕ) (xs : List A) (ys : List B) → n ≤ length xs → n ≤ length ys
    → length (take n xs) ≡ length (take n ys)
take-long zero xs ys h g = refl
take-long (suc n) [] ys h g = absurd (omega arith)
take-long (suc n) (x ∷ xs) [] h g = absurd (omega arith)
take-long (suc n) (x ∷ xs) (y ∷ ys) h g = ap suc (take-long n xs ys (omega arith) (omega arith))

map-long : {A B : Type 0} (f : A → B) (xs : List A) → length (map f xs) ≡ length xs
map-long f [] = refl
map-long f (x ∷ xs) = ap suc (map-long f xs)

-- ---- in a trace

module _ (s : SystemTree) (m : Model) (M : IsTraceModel s m)
    (vals : GroundMacro → Option ℕ → Ground) (l : Bool) (a : Assignment) (v : Ground → Bool) where
  abbrev w : World
  w = record { times = times_of m; values = vals; left = l }

  abbrev Holds : TermTree → Type 0
  Holds t = IsTrueAt v (translate w a [] t)

  abbrev at : TsTree → Option ℕ
  at t = ts_value (times_of m) a [] t

  abbrev H : TsTree → Ground
  H t = truth_of (is_position (at t))

  abbrev L : TsTree → TsTree → Ground
  L t u = truth_of (is_upto (at t) (at u))

  abbrev E : TsTree → TsTree → Ground
  E t u = truth_of (is_same_time (at t) (at u))

  abbrev read : TermTree → Ground
  read t = translate w a [] t

  abbrev numbers : List Idx → List ℕ
  numbers is = idx_values a [] is

  -- what happens stands in the trace
  standing : (n : ℕ) (is : List Idx) → IsTrueAt v (H (action n is))
      → (k : ℕ) × (at (action n is) ≡ Some (suc k)) × IsAt m.list n (numbers is) k
  standing n is h =
      let p : (q : ℕ) × (at (action n is) ≡ Some q) =
      happens_at (at (action n is)) (off v (is_position (at (action n is))) h) in
      let r : (k : ℕ) × (p.0 ≡ suc k) × IsAt m.list n (numbers is) k =
      placed-at m.list n (numbers is) p.0 p.1 in
      (r.0, p.1 ∙ ap Some r.1, r.2)

  -- instances at one position are one
  one_place : (n n' : ℕ) (is js : List Idx) (k k' : ℕ) → at (action n is) ≡ at (action n' js)
      → at (action n is) ≡ Some (suc k) → IsAt m.list n (numbers is) k
      → at (action n' js) ≡ Some (suc k') → IsAt m.list n' (numbers js) k'
      → (n ≡ n') × (numbers is ≡ numbers js)
  one_place n n' is js k k' e f x g y =
      let z : Some (suc k) ≡ Some (suc k') = sym f ∙ (e ∙ g) in
      let q : k ≡ k' = cc in
      let i : x.instance ≡ y.instance =
      element_once m.list k x.instance y.instance x.stands
      (subst (λ j. ElementAt m.list j y.instance) (sym q) y.stands) in (
        x.action ∙ (ap (λ (o : Inst). o.act) i ∙ sym y.action),
        x.indices ∙ (ap (λ (o : Inst). o.idx) i ∙ sym y.indices),
      )

  equal_instances : (n n' : ℕ) (is js : List Idx) → IsTrueAt v (H (action n is))
      → IsTrueAt v (E (action n is) (action n' js)) → (n ≡ n') × (numbers is ≡ numbers js)
  equal_instances n n' is js h e =
      let x = standing n is h in
      let f : at (action n is) ≡ at (action n' js) =
      same_is (at (action n is)) (at (action n' js))
      (off v (is_same_time (at (action n is)) (at (action n' js))) e) in
      let y : (k : ℕ) × (suc x.0 ≡ suc k) × IsAt m.list n' (numbers js) k =
      placed-at m.list n' (numbers js) (suc x.0) (sym f ∙ x.1) in
      one_place n n' is js x.0 y.0 f x.1 x.2 (sym f ∙ (x.1 ∙ ap Some y.1)) y.2

  -- ---- o8

  one_action_true : (n : ℕ) (is js : List Idx) → Holds (one_action n is js)
  one_action_true n is js =
      implied v (H (action n is))
      (implies (E (action n is) (action n js)) (read (same_indices is js))) (λ h.
      implied v (E (action n is) (action n js)) (read (same_indices is js)) (λ e.
      same_true w a v is js (equal_instances n n is js h e).1))

  two_actions_true : (n n' : ℕ) (is js : List Idx) → (n == n') ≡ false
      → Holds (two_actions n is n' js)
  two_actions_true n n' is js d =
      implied v (H (action n is)) (negation (E (action n is) (action n' js))) (λ h.
      denied v (E (action n is) (action n' js)) (λ e.
      sym d ∙ eq-eqb n n' (equal_instances n n' is js h e).0))

  pub o8_true : (n n' : ℕ) (is js : List Idx) → Holds (o8 n is n' js)
  o8_true n n' is js = by_test (n == n') refl
    where
      by_test : (b : Bool) → (n == n') ≡ b
          → Holds (if b then one_action n is js else two_actions n is n' js)
      by_test true e = one_action_true n is js
      by_test false e = two_actions_true n n' is js e

  -- ---- o9

  instance_true : (t : TsTree) (k : ℕ) (i : Inst) → ts_closed 0 t ≡ true → at t ≡ Some (suc k)
      → ElementAt m.list k i
      → Holds (is_some_instance t i.act (action_at s i.act))
  instance_true t k i c e h =
      let b = below s m M k i h in
      let same : ts_value (times_of m) a (chosen w a v i.idx []) t
      ≡ place_from 1 m.list i.act
      (idx_values a (chosen w a v i.idx []) (indices_of_binders (length i.idx))) =
      free_ts w a (chosen w a v i.idx []) [] t c
      ∙ (e
      ∙ (sym (at-placed m.list i.act i.idx k M.different
      (record { instance = i; stands = h; action = refl; indices = refl }))
      ∙ ap (place_from 1 m.list i.act) (sym (chosen_values w a v i.idx [])))) in
      let there : Holds
      (some_indices (length i.idx) (ts_eq t (action i.act (indices_of_binders (length i.idx))))) =
      some_true w a v i.idx []
      (ts_eq t (action i.act (indices_of_binders (length i.idx)))) b.2
      (on v
      (is_same_time (ts_value (times_of m) a (chosen w a v i.idx []) t)
      (place_from 1 m.list i.act
      (idx_values a (chosen w a v i.idx []) (indices_of_binders (length i.idx)))))
      (is_same (ts_value (times_of m) a (chosen w a v i.idx []) t)
      (place_from 1 m.list i.act
      (idx_values a (chosen w a v i.idx []) (indices_of_binders (length i.idx)))) same)) in
      subst
      (λ n. Holds (some_indices n (ts_eq t (action i.act (indices_of_binders n))))) b.1 there

  -- where the timestamp's position is one of the trace
  pub o9_true : (t : TsTree) → ts_closed 0 t ≡ true
      → ((p : ℕ) → at t ≡ Some p → p < suc (length m.list)) → Holds (o9 s t)
  o9_true t c bound =
      implied v (H t) (read (disj_of all)) (λ h.
      let p : (q : ℕ) × (at t ≡ Some q) = happens_at (at t) (off v (is_position (at t)) h) in
      at_position p.0 p.1)
    where
      all : List TermTree
      all = ts_eq t init ∷ instances_from t 0 s.actions

      at_position : (p : ℕ) → at t ≡ Some p → Holds (disj_of all)
      at_position zero e =
          disj_from w a v [] all (ts_eq t init) here
          (on v (is_same_time (at t) (Some 0)) (is_same (at t) (Some 0) e))
      at_position (suc k) e =
          let b : suc k < suc (length m.list) = bound (suc k) e in
          let r : (i : Inst) × ElementAt m.list k i = element_there m.list k (omega arith) in
          let q = below s m M k r.0 r.1 in
          disj_from w a v [] all (is_some_instance t r.0.act (action_at s r.0.act))
          (there (member-instances t 0 r.0.act s.actions r.0.act q.0 (omega arith)))
          (instance_true t k r.0 c e r.1)

  -- ---- o11

  never_init : (n : ℕ) (is : List Idx) → Holds (formula.negation (ts_eq (action n is) init))
  never_init n is =
      denied v (E (action n is) init) (λ e.
      let f : at (action n is) ≡ Some 0 =
      same_is (at (action n is)) (Some 0) (off v (is_same_time (at (action n is)) (Some 0)) e) in
      let r : (k : ℕ) × (0 ≡ suc k) × IsAt m.list n (numbers is) k =
      placed-at m.list n (numbers is) 0 f in
      absurd (let z : 0 ≡ suc r.0 = r.1 in omega (arith, z)))

  parent_before : (n p : ℕ) (is : List Idx) → (action_at s n).parent ≡ Some p
      → IsTrueAt v (H (action n is))
      → Holds (is_before (action p (take (action_at s p).arity is)) (action n is))
  parent_before n p is e h =
      let x = standing n is h in
      let i : Inst = x.2.instance in
      let r : (j : ℕ) × (j < x.0) × IsAt m.list p (take (action_at s p).arity i.idx) j =
      parent_earlier s m M x.0 i p x.2.stands
      (subst (λ q. (action_at s q).parent ≡ Some p) x.2.action e) in
      let front : numbers (take (action_at s p).arity is)
      ≡ take (action_at s p).arity i.idx =
      sym (take-map (idx_value a []) (action_at s p).arity is)
      ∙ ap (take (action_at s p).arity) x.2.indices in
      let there : at (action p (take (action_at s p).arity is)) ≡ Some (suc r.0) =
      ap (place_from 1 m.list p) front
      ∙ at-placed m.list p (take (action_at s p).arity i.idx) r.0 M.different r.2 in
      order (at (action p (take (action_at s p).arity is))) (at (action n is)) r.0 x.0 there x.1 r.1
    where
      order : (p q : Option ℕ) (j k : ℕ) → p ≡ Some (suc j) → q ≡ Some (suc k) → j < k
          → IsTrueAt v (both (truth_of (is_upto p q)) (negation (truth_of (is_same_time p q))))
      order p q j k e f b =
          joined v (truth_of (is_upto p q)) (negation (truth_of (is_same_time p q)))
          (on v (is_upto p q) (earlier_upto p q j k e f b))
          (denied v (truth_of (is_same_time p q)) (λ g.
          earlier_differs p q j k e f b (off v (is_same_time p q) g)))

  pub o11_true : (n : ℕ) (is : List Idx) → Holds (o11 s n is)
  o11_true n is = by_parent (action_at s n).parent refl
    where
      by_parent : (o : Option ℕ) → (action_at s n).parent ≡ o → Holds (after_parent s n is o)
      by_parent None e = never_init n is
      by_parent (Some p) e =
          joined v (negation (E (action n is) init))
          (implies (H (action n is))
          (read (is_before (action p (take (action_at s p).arity is)) (action n is))))
          (never_init n is)
          (implied v (H (action n is))
          (read (is_before (action p (take (action_at s p).arity is)) (action n is)))
          (parent_before n p is e))

  -- ---- o12

  module _ (facts : IsSystem s) where
    -- an instance has as many indices as its path binds
    path_long : (n : ℕ) (is : List ℕ) (k : ℕ) → IsAt m.list n is k
        → sum_by indices_bound (action_at s n).path ≡ length is
    path_long n is k x =
        let b = below s m M k x.instance x.stands in
        let there : slice_get s.actions x.instance.act ≡ Some (action_at s x.instance.act) =
        within-slice s.actions x.instance.act b.0 in
        let f : IsAction s x.instance.act (action_at s x.instance.act) =
        facts x.instance.act (action_at s x.instance.act) there in
        subst (λ q. sum_by indices_bound (action_at s q).path ≡ length is) (sym x.action)
        (sym f.arity_is ∙ (sym b.1 ∙ ap length (sym x.indices)))

    apart : (n n' : ℕ) (is js : List Idx) (k : ℕ) (c : Choice)
        → clash (action_at s n).path (action_at s n').path k ≡ Some c
        → IsTrueAt v (H (action n is)) → IsTrueAt v (H (action n' js)) → Holds (agree is js c)
        → ((c.differ == 0) ≡ false) × Holds (agree_further is js c)
    apart n n' is js k c e h g q =
        let x = standing n is h in
        let y = standing n' js g in
        let many = agree_within (action_at s n).path (action_at s n').path k c e in
        let p = path_long n (numbers is) x.0 x.2 in
        let p' = path_long n' (numbers js) y.0 y.2 in
        let r : c.agree ≤ length is =
        omega (arith, many.0, p, map-long (idx_value a []) is) in
        let r' : c.agree ≤ length js =
        omega (arith, many.1, p', map-long (idx_value a []) js) in
        let first : numbers (take c.agree is) ≡ numbers (take c.agree js) =
        true_same w a v (take c.agree is) (take c.agree js) (take-long c.agree is js r r') q in
        let values : take c.agree (numbers is) ≡ take c.agree (numbers js) =
        take-map (idx_value a []) c.agree is
        ∙ (first ∙ sym (take-map (idx_value a []) c.agree js)) in
        let same : same_numbers (take c.agree (numbers is)) (take c.agree (numbers js)) ≡ true =
        subst (λ z. same_numbers (take c.agree (numbers is)) z ≡ true) values
        (same_numbers_itself (take c.agree (numbers is))) in
        let free : is_separated (numbers is) (numbers js) c ≡ false =
        subst (λ z. is_separated z (numbers js) c ≡ false) (sym x.2.indices)
        (subst (λ z. is_separated x.2.instance.idx z c ≡ false) (sym y.2.indices)
        (unseparated s m M x.0 y.0 x.2.instance y.2.instance x.2.stands y.2.stands k c
        (subst (λ z. clash (action_at s z).path (action_at s y.2.instance.act).path k ≡ Some c)
        x.2.action
        (subst (λ z. clash (action_at s n).path (action_at s z).path k ≡ Some c) y.2.action e)))) in
        let d = next_same (numbers is) (numbers js) c same free in (
          d.0,
          same_true w a v (take c.differ (drop c.agree is)) (take c.differ (drop c.agree js))
              (further is ∙ (d.1 ∙ sym (further js))),
        )
      where
        further : (ks : List Idx)
            → numbers (take c.differ (drop c.agree ks))
            ≡ take c.differ (drop c.agree (numbers ks))
        further ks =
            sym (take-map (idx_value a []) c.differ (drop c.agree ks))
            ∙ ap (take c.differ) (sym (drop-map (idx_value a []) c.agree ks))

    pub o12_true : (n n' : ℕ) (is js : List Idx) (k : ℕ) (c : Choice)
        → clash (action_at s n).path (action_at s n').path k ≡ Some c → Holds (o12 n is n' js c)
    o12_true n n' is js k c e = by_test (c.differ == 0) refl
      where
        by_test : (b : Bool) → (c.differ == 0) ≡ b
            → Holds (if b then excluded n is n' js c else determined n is n' js c)
        by_test true d =
            implied v (H (action n is))
            (implies (read (agree is js c)) (negation (H (action n' js)))) (λ h.
            implied v (read (agree is js c)) (negation (H (action n' js))) (λ q.
            denied v (H (action n' js)) (λ g.
            sym (apart n n' is js k c e h g q).0 ∙ d)))
        by_test false d =
            implied v (H (action n is))
            (implies (H (action n' js))
            (implies (read (agree is js c)) (read (agree_further is js c)))) (λ h.
            implied v (H (action n' js))
            (implies (read (agree is js c)) (read (agree_further is js c))) (λ g.
            implied v (read (agree is js c)) (read (agree_further is js c)) (λ q.
            (apart n n' is js k c e h g q).1)))
