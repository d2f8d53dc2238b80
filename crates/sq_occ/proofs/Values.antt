-- The values of binders around a body, and of what stands under them.
use Rattle.std.proofs.Common.{◌≡◌, refl, sym, ap, ◌∙◌, subst, ℕ, zero, suc, ◌+◌, ◌-◌, ◌<◌, ◌≤◌, ◌⊎◌}
use Rattle.std.proofs.Common.{⊎_elim, List, [], ◌∷◌, ◌++◌, length, map, get_or, Bool, true, false}
use Rattle.std.proofs.Common.{if◌then◌else◌, nat_lt, arith, Some, None}
use Rattle.std.proofs.lemmas.Bool.Decides.{nat_tests}
use Rattle.sq_base.specs.declared.sort.Sort.{Sort}
use Rattle.sq_base.specs.declared.sort.Sort.TheVariants.{Index}
use Rattle.sq_term.specs.declared.model.Inst.{Inst}
use Rattle.sq_term.specs.declared.model.Value.{Value}
use Rattle.sq_term.specs.declared.model.Value.TheVariants.{Index as Number, Time as Moment}
use Rattle.sq_term.specs.declared.term.Idx.{Idx}
use Rattle.sq_term.specs.declared.term.Idx.TheVariants.{Free, Bound}
use Rattle.sq_term.specs.declared.term.Macro.{Macro}
use Rattle.sq_term.specs.declared.term.Macro.TheVariants.{Input, Output, Cond, Exec, Frame}
use Rattle.sq_term.specs.declared.term.Side.TheVariants.{Both}
use Rattle.sq_term.specs.GroundFormulas.{truth_of}
use Rattle.sq_term.specs.Lists.{Member, here, there, ElementAt, count}
use Rattle.sq_term.specs.Models.{is_instance, place_from, are_below}
use Rattle.sq_term.specs.Records.{own_indices}
use Rattle.sq_term.specs.Syntax.{TsTree, free, bound, init, pred, action, TermTree}
use Rattle.sq_term.specs.Translate.{Times, World, Assignment, number_of, time_of, before, is_upto}
use Rattle.sq_term.specs.Translate.{idx_value, idx_values, ts_value, translate}
use Rattle.sq_term.proofs.BoolTests.{and_split}
use Rattle.sq_term.proofs.Lists.{get_or-front}
use Rattle.sq_term.proofs.Members.{member-map}
use Rattle.sq_term.proofs.Models.{is_instance_itself}
use Rattle.sq_subst.specs.Leaves.{map_term}
use Rattle.sq_subst.specs.Tests.{indices_pass, passes}
use Rattle.sq_subst.proofs.LeavesLaw.{leaves_law}
use Rattle.sq_ground.specs.Holding.{Fits}
use Rattle.sq_ground.specs.Truth.{is_true}
use Rattle.sq_occ.specs.Entries.{with_indices}
use Rattle.sq_subst.specs.Renaming.{bound_index, binding}
use Rattle.sq_occ.specs.Searches.{binders, lifted_idx, lifted_ts, reach}
use Rattle.sq_occ.proofs.Positions.{lag}
use Rattle.sq_occ.proofs.Scopes.{own_index, own_scope}

abbrev nothing : Value
nothing = Moment None

-- the values of an action's indices, the first of them outermost
abbrev pub values_of : List ℕ → List Value → List Value
values_of [] es = es
values_of (n ∷ ns) es = values_of ns (Number n ∷ es)

get_or-behind : (xs ys : List Value) (k : ℕ) → get_or (xs ++ ys) (length xs + k) nothing
    ≡ get_or ys k nothing
get_or-behind [] ys k = let e : 0 + k ≡ k = omega arith in ap (λ j. get_or ys j nothing) e
get_or-behind (x ∷ xs) ys k =
    let e : suc (length xs) + k ≡ suc (length xs + k) = omega arith in
    ap (λ j. get_or (x ∷ (xs ++ ys)) j nothing) e ∙ get_or-behind xs ys k

values-behind : (ns : List ℕ) (es : List Value) (k : ℕ)
    → get_or (values_of ns es) (length ns + k) nothing ≡ get_or es k nothing
values-behind [] es k = let e : 0 + k ≡ k = omega arith in ap (λ j. get_or es j nothing) e
values-behind (n ∷ ns) es k =
    let e : suc (length ns) + k ≡ length ns + suc k = omega arith in
    ap (λ j. get_or (values_of ns (Number n ∷ es)) j nothing) e
    ∙ values-behind ns (Number n ∷ es) (suc k)

values-at : (ns : List ℕ) (es : List Value) (k : ℕ) → k < length ns
    → get_or (values_of ns es) (length ns - suc k) nothing ≡ Number (get_or ns k 0)
values-at [] es k h = absurd (omega arith)
values-at (n ∷ ns) es zero h =
    let e : suc (length ns) - 1 ≡ length ns + 0 = omega arith in
    ap (λ j. get_or (values_of ns (Number n ∷ es)) j nothing) e
    ∙ values-behind ns (Number n ∷ es) 0
values-at (n ∷ ns) es (suc k) h =
    let e : suc (length ns) - suc (suc k) ≡ length ns - suc k = omega arith in
    ap (λ j. get_or (values_of ns (Number n ∷ es)) j nothing) e
    ∙ values-at ns (Number n ∷ es) k (omega arith)

own_number : (ns : List ℕ) (k : ℕ) → number_of (get_or (map Number ns) k nothing) ≡ get_or ns k 0
own_number [] k = refl
own_number (n ∷ ns) zero = refl
own_number (n ∷ ns) (suc k) = own_number ns k

-- ---- a body under the binders of its action

-- bs are the values of the binders of a body, and cs those with the numbers of its instance behind
pub record Around (ns : List ℕ) (m : ℕ) (bs cs : List Value) : Type 0 where
  pub below : (k : ℕ) → k < m → get_or bs k nothing ≡ get_or cs k nothing
  pub numbers : (k : ℕ) → k < length ns
      → get_or cs (m + (length ns - suc k)) nothing ≡ Number (get_or ns k 0)

around-pushed : (ns : List ℕ) (m : ℕ) (bs cs : List Value) (x : Value) → Around ns m bs cs
    → Around ns (m + 1) (x ∷ bs) (x ∷ cs)
around-pushed ns m bs cs x h = record { below = below; numbers = numbers }
  where
    below : (k : ℕ) → k < m + 1 → get_or (x ∷ bs) k nothing ≡ get_or (x ∷ cs) k nothing
    below zero l = refl
    below (suc k) l = h.below k (omega arith)

    numbers : (k : ℕ) → k < length ns
        → get_or (x ∷ cs) ((m + 1) + (length ns - suc k)) nothing ≡ Number (get_or ns k 0)
    numbers k l =
        let e : (m + 1) + (length ns - suc k) ≡ suc (m + (length ns - suc k)) = omega arith in
        ap (λ j. get_or (x ∷ cs) j nothing) e ∙ h.numbers k l

pub around_values : (ns : List ℕ) (fs es : List Value)
    → Around ns (length fs) fs (fs ++ values_of ns es)
around_values ns fs es = record {
  below = λ k l. sym (get_or-front fs (values_of ns es) k nothing l);
  numbers = λ k l. get_or-behind fs (values_of ns es) (length ns - suc k) ∙ values-at ns es k l;
}

lesser : (k n : ℕ) → nat_lt k n ≡ true → k < n
lesser k n h = grind (arith, nat_tests)

module _ (w : World) (i : Inst) (a : Assignment) where
  bound_value : (m : ℕ) (bs cs : List Value) (j : Idx) → Around i.idx m bs cs
      → own_index (length i.idx) m j ≡ true
      → idx_value (own_indices i) bs j ≡ idx_value a cs (bound_index (length i.idx) m j)
  bound_value m bs cs (Free k) h e =
      let at : idx_value a cs (Bound (m + (length i.idx - suc k))) ≡ get_or i.idx k 0 =
      ap number_of (h.numbers k (lesser k (length i.idx) e)) in
      own_number i.idx k
      ∙ (sym at
      ∙ ap (λ b. idx_value a cs (if b then Bound (m + (length i.idx - suc k)) else Free k)) (sym e))
  bound_value m bs cs (Bound k) h e = ap number_of (h.below k (lesser k m e))

  pub bound_values : (m : ℕ) (bs cs : List Value) (js : List Idx) → Around i.idx m bs cs
      → indices_pass (own_scope (length i.idx)) m js ≡ true
      → idx_values (own_indices i) bs js
      ≡ idx_values a cs (map (bound_index (length i.idx) m) js)
  bound_values m bs cs [] h e = refl
  bound_values m bs cs (j ∷ js) h e =
      let p = and_split (own_index (length i.idx) m j) _ e in
      let first = bound_value m bs cs j h p.0 in
      cc (first, bound_values m bs cs js h p.1)

  no_some : {A B : Type 0} (u : A) → None ≡ Some u → B
  no_some u e = absurd (let f : None ≡ Some u = e in cc)

  no_truth : {B : Type 0} → false ≡ true → B
  no_truth e = absurd (let f : false ≡ true = e in cc)

  pub bound_meaning : (m : ℕ) (bs cs : List Value) (t : TermTree) → Around i.idx m bs cs
      → passes (own_scope (length i.idx)) m t ≡ true
      → translate w (own_indices i) bs t
      ≡ translate w a cs (map_term (binding (length i.idx) Both) m t)
  bound_meaning m bs cs t h e =
      leaves_law (binding (length i.idx) Both) (own_scope (length i.idx)) w (own_indices i) a
      (Around i.idx) (around-pushed i.idx) bound_value
      (λ m bs cs k r h. no_truth h)
      (λ m bs cs k r h. ap time_of (r.below k (lesser k m h)))
      (λ m bs cs k r h. no_truth h)
      (λ m bs cs t u r h e. no_some u e) (λ m bs cs t u r h e. no_some u e) refl
      t m bs cs h e

-- ---- the guard

pub own_binders : (a : Assignment) (fs : List Value) (ns : List ℕ) (es : List Value)
    → idx_values a (fs ++ values_of ns es) (binders (length fs) (length ns)) ≡ ns
own_binders a fs [] es = refl
own_binders a fs (n ∷ ns) es =
    let e : length ns ≡ length ns + 0 = omega arith in
    let at : get_or (fs ++ values_of ns (Number n ∷ es)) (length fs + length ns) nothing
    ≡ Number n =
    get_or-behind fs (values_of ns (Number n ∷ es)) (length ns)
    ∙ (ap (λ j. get_or (values_of ns (Number n ∷ es)) j nothing) e
    ∙ values-behind ns (Number n ∷ es) 0) in
    cc (ap number_of at, own_binders a fs ns (Number n ∷ es))

behind_all : (fs : List Value) (ns : List ℕ) (es : List Value) (k : ℕ)
    → get_or (fs ++ values_of ns es) ((length fs + length ns) + k) nothing ≡ get_or es k nothing
behind_all fs ns es k =
    let e : (length fs + length ns) + k ≡ length fs + (length ns + k) = omega arith in
    ap (λ j. get_or (fs ++ values_of ns es) j nothing) e
    ∙ (get_or-behind fs (values_of ns es) (length ns + k) ∙ values-behind ns es k)

module _ (w : Times) (a : Assignment) (fs : List Value) (ns : List ℕ) (es : List Value) where
  abbrev inner : List Value
  inner = fs ++ values_of ns es

  abbrev depth : ℕ
  depth = length fs + length ns

  lifted_value : (i : Idx) → idx_value a inner (lifted_idx depth i) ≡ idx_value a es i
  lifted_value (Free k) = refl
  lifted_value (Bound k) = ap number_of (behind_all fs ns es k)

  lifted_values : (is : List Idx) → idx_values a inner (map (lifted_idx depth) is)
      ≡ idx_values a es is
  lifted_values [] = refl
  lifted_values (i ∷ is) = cc (lifted_value i, lifted_values is)

  pub lifted_time : (t : TsTree) → ts_value w a inner (lifted_ts depth t) ≡ ts_value w a es t
  lifted_time (free k) = refl
  lifted_time (bound k) = ap time_of (behind_all fs ns es k)
  lifted_time init = refl
  lifted_time (pred t) = ap before (lifted_time t)
  lifted_time (action n is) = ap (w.place n) (lifted_values is)

  upto : (p q : ℕ) → p ≤ q → is_upto (Some p) (Some q) ≡ true
  upto p q h = grind (arith, nat_tests)

  reached_late : (mac : Macro) (t : TsTree) (p q r : ℕ) → ts_value w a es t ≡ Some r → p ≤ suc q
      → suc q + lag mac ≤ r → is_upto (Some p) (ts_value w a es (reach mac t)) ≡ true
  reached_late Output t p q r e h k = ap (is_upto (Some p)) e ∙ upto p r (omega arith)
  reached_late Cond t p q r e h k = ap (is_upto (Some p)) e ∙ upto p r (omega arith)
  reached_late Exec t p q r e h k = ap (is_upto (Some p)) e ∙ upto p r (omega arith)
  reached_late Frame t p q r e h k = ap (is_upto (Some p)) e ∙ upto p r (omega arith)
  reached_late Input t p q zero e h k = absurd (omega arith)
  reached_late Input t p q (suc r) e h k =
      ap (λ v. is_upto (Some p) (before v)) e ∙ upto p r (omega arith)

  pub guard_met : (j : ℕ) (mac : Macro) (t : TsTree) (p q r : ℕ) → w.place j ns ≡ Some p
      → ts_value w a es t ≡ Some r → p ≤ suc q → suc q + lag mac ≤ r
      → is_upto (ts_value w a inner (action j (binders (length fs) (length ns))))
      (ts_value w a inner (lifted_ts depth (reach mac t))) ≡ true
  guard_met j mac t p q r placed value h k =
      let left : ts_value w a inner (action j (binders (length fs) (length ns))) ≡ Some p =
      ap (w.place j) (own_binders a fs ns es) ∙ placed in
      ap (λ v. is_upto v (ts_value w a inner (lifted_ts depth (reach mac t)))) left
      ∙ (ap (is_upto (Some p)) (lifted_time (reach mac t))
      ∙ reached_late mac t p q r value h k)

pub true_of : (b : Bool) → b ≡ true → is_true (truth_of b) ≡ true
true_of true e = refl
true_of false e = absurd (let f : false ≡ true = e in cc)

-- ---- fitting values

pub fits-append : (w : Times) (b c : List Sort) (xs ys : List Value) → Fits w b xs → Fits w c ys
    → Fits w (b ++ c) (xs ++ ys)
fits-append w [] c [] ys h k = k
fits-append w (s ∷ b) c (x ∷ xs) ys h k = (h.0, fits-append w b c xs ys h.1 k)
fits-append w [] c (x ∷ xs) ys h k = absurd h
fits-append w (s ∷ b) c [] ys h k = absurd h

pub fits-length : (w : Times) (b : List Sort) (xs : List Value) → Fits w b xs
    → length b ≡ length xs
fits-length w [] [] h = refl
fits-length w (s ∷ b) (x ∷ xs) h = ap suc (fits-length w b xs h.1)
fits-length w [] (x ∷ xs) h = absurd h
fits-length w (s ∷ b) [] h = absurd h

member-count : (a n x : ℕ) → a ≤ x → x < a + n → Member (count a n) x
member-count a zero x h k = absurd (omega arith)
member-count a (suc n) x h k =
    ⊎_elim (λ e. subst (λ y. Member (a ∷ count (suc a) n) y) e here)
    (λ l. there (member-count (suc a) n x l (omega arith))) (either a x h)
  where
    either : (a x : ℕ) → a ≤ x → (a ≡ x) ⊎ (suc a ≤ x)
    either a x h = grind arith

pub fits-indices : (w : Times) (ns : List ℕ) (b : List Sort) (es : List Value)
    → are_below w.indices ns ≡ true → Fits w b es
    → Fits w (with_indices (length ns) b) (values_of ns es)
fits-indices w [] b es h f = f
fits-indices w (n ∷ ns) b es h f =
    let p = and_split (nat_lt n w.indices) (are_below w.indices ns) h in
    let l : n < w.indices = lesser n w.indices p.0 in
    fits-indices w ns (Index ∷ b) (Number n ∷ es) p.1 (
      member-map Number (count 0 w.indices) n
          (member-count 0 w.indices n (omega arith) (omega arith)),
      f,
    )

-- ---- an instance is found no later than where it stands

pub place_found : (p : ℕ) (list : List Inst) (q : ℕ) (i : Inst) → ElementAt list q i
    → (r : ℕ) × (place_from p list i.act i.idx ≡ Some r) × (r ≤ p + q)
place_found p [] q i h = absurd h
place_found p (x ∷ list) zero i h =
    let itself : is_instance i.act i.idx x ≡ true =
    subst (λ y. is_instance i.act i.idx y ≡ true) (sym h) (is_instance_itself i) in
    (p, ap (λ b. (if b then Some p else place_from (suc p) list i.act i.idx)) itself, omega arith)
place_found p (x ∷ list) (suc q) i h =
    first_or (is_instance i.act i.idx x) (place_found (suc p) list q i h)
  where
    first_or : (b : Bool)
        → (r : ℕ) × (place_from (suc p) list i.act i.idx ≡ Some r) × (r ≤ suc p + q)
        → (r : ℕ) × ((if b then Some p else place_from (suc p) list i.act i.idx) ≡ Some r)
        × (r ≤ p + suc q)
    first_or true f = (p, refl, omega arith)
    first_or false f = (f.0, f.1, omega arith)
