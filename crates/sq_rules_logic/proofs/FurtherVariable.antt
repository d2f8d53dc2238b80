-- A sequent over one more variable: what it says at each value of that variable is what alli and
-- exe need.
use Rattle.std.proofs.Common.{◌≡◌, ℕ, suc, refl, sym, ap, ◌∙◌, subst, List, [], ◌∷◌, ◌++◌, map}
use Rattle.std.proofs.Common.{length, Some, None, Bool, true, false}
use Rattle.std.specs.Prelude.{get_or}
use Rattle.std.proofs.lemmas.List.{map-append}
use Rattle.sq_base.specs.declared.sort.Sort.{Sort}
use Rattle.sq_base.specs.declared.sort.Sort.TheVariants.{Message, Boolean, Index, Timestamp}
use Rattle.sq_term.specs.declared.term.Side.{Side}
use Rattle.sq_term.specs.declared.model.Value.{Value}
use Rattle.sq_term.specs.declared.model.Value.TheVariants.{Index as Number, Time as Moment}
use Rattle.sq_term.specs.Lists.{Member, here, there, Each, count}
use Rattle.sq_term.specs.Syntax.{TermTree, all, some}
use Rattle.sq_term.specs.Ground.{Ground}
use Rattle.sq_term.specs.Translate.{Times, Assignment, number_of, time_of, domain, translate}
use Rattle.sq_term.specs.Within.{IsWithin, with_value}
use Rattle.sq_term.proofs.Lists.{get_or-last}
use Rattle.sq_term.proofs.Members.{member-map, member-map_from, each-map, each-push}
use Rattle.sq_term.proofs.Within.{unchanged, each_unchanged}
use Rattle.sq_system.specs.Sequents.{Item, item, trace, local, equiv}
use Rattle.sq_subst.specs.Laws.{arg_value, arg_closed}
use Rattle.sq_subst.specs.Substitution.{opened}
use Rattle.sq_subst.proofs.Laws.{open_law}
use Rattle.sq_ground.specs.Truth.{is_true, IsTrueAt}
use Rattle.sq_ground.specs.Lines.{Claim}
use Rattle.sq_ground.specs.Lines as line
use Rattle.sq_ground.specs.Theories.{Theory, world_at}
use Rattle.sq_ground.specs.Holding.{Fits, IsAssignment, claim_of, pair_of, pairs_of, IsTrueFormula}
use Rattle.sq_ground.specs.Holding.{HoldsAt}
use Rattle.sq_ground.specs.Derivations.{HasDerivation}
use Rattle.sq_ground.proofs.Propositional.{conj-from, disj-cases}
use Rattle.sq_ground.proofs.Propositional as ground_rule
use Rattle.sq_sequent.specs.Premises.{variable}

-- ---- the value of the new variable

pub numbers : (w : Times) → Each (λ v. Number (number_of v) ≡ v) (domain w Index)
numbers w =
    each-map Number (count 0 w.indices) (λ v. Number (number_of v) ≡ v) (λ n i. refl)

moments : (w : Times) → Each (λ v. Moment (time_of v) ≡ v) (domain w Timestamp)
moments w =
    each-push (map (λ p. Moment (Some p)) (count 0 w.positions)) (Moment None)
    (λ v. Moment (time_of v) ≡ v)
    (each-map (λ p. Moment (Some p)) (count 0 w.positions) (λ v. Moment (time_of v) ≡ v)
    (λ p i. refl)) refl

last_value : (a : Assignment) (v : Value) (k : ℕ) → length a.variables ≡ k
    → get_or (with_value a v).variables k (Moment None) ≡ v
last_value a v k e =
    ap (λ n. get_or (with_value a v).variables n (Moment None)) (sym e)
    ∙ get_or-last a.variables v (Moment None)

variable_value : (w : Times) (x : Sort) (a : Assignment) (v : Value) (k : ℕ)
    → length a.variables ≡ k → Member (domain w x) v
    → arg_value w (with_value a v) (variable x k) ≡ v
variable_value w Index a v k e i = ap (λ u. Number (number_of u))
    (last_value a v k e) ∙ numbers w v i
variable_value w Timestamp a v k e i =
    ap (λ u. Moment (time_of u)) (last_value a v k e) ∙ moments w v i
variable_value w Message a v k e i = elim i [ ]
variable_value w Boolean a v k e i = elim i [ ]

variable_closed : (x : Sort) (k : ℕ) → arg_closed (variable x k) ≡ true
variable_closed Index k = refl
variable_closed Timestamp k = refl
variable_closed Message k = refl
variable_closed Boolean k = refl

fits_count : (w : Times) (vars : List Sort) (vs : List Value) → Fits w vars vs
    → length vs ≡ length vars
fits_count w [] [] h = refl
fits_count w [] (v ∷ vs) h = absurd h
fits_count w (s ∷ ss) [] h = absurd h
fits_count w (s ∷ ss) (v ∷ vs) h = ap suc (fits_count w ss vs h.1)

fits_more : (w : Times) (vars : List Sort) (vs : List Value) (x : Sort) (v : Value) → Fits w vars vs
    → Member (domain w x) v → Fits w (vars ++ x ∷ []) (vs ++ v ∷ [])
fits_more w [] [] x v h i = (i, tt)
fits_more w [] (u ∷ vs) x v h i = absurd h
fits_more w (s ∷ ss) [] x v h i = absurd h
fits_more w (s ∷ ss) (u ∷ vs) x v h i = (h.0, fits_more w ss vs x v h.1 i)

-- ---- terms at the value

abbrev pub ItemWithin : ℕ → Item → Type 0
ItemWithin n (item t u) = IsWithin n t × IsWithin n u

module _ (th : Theory) (a : Assignment) (v : Value) (n : ℕ) (many : length a.variables ≡ n) where
  there_within : (t : TermTree) → IsWithin n t → IsWithin (length a.variables) t
  there_within t h = subst (λ k. IsWithin k t) (sym many) h

  same_meaning : (left : Bool) (t : TermTree) → IsWithin n t
      → translate (world_at th left) (with_value a v) [] t ≡ translate (world_at th left) a [] t
  same_meaning left t h = unchanged (world_at th left) a v t [] (there_within t h)

  same_meanings : (left : Bool) (ts : List TermTree) → Each (IsWithin n) ts
      → map (translate (world_at th left) (with_value a v) []) ts
      ≡ map (translate (world_at th left) a []) ts
  same_meanings left ts h =
      each_unchanged (world_at th left) a v ts (λ t i. there_within t (h t i))

  -- trace formulas that were true are
  still_true : (ts : List TermTree) → Each (IsWithin n) ts → Each (IsTrueFormula th a) ts
      → Each (IsTrueFormula th (with_value a v)) ts
  still_true ts h e t i = ap is_true (same_meaning true t (h t i)) ∙ e t i

  same_pair : (i : Item) → ItemWithin n i → pair_of th (with_value a v) i ≡ pair_of th a i
  same_pair (item t u) h = λ i.
      record { left = same_meaning true t h.0 i; right = same_meaning false u h.1 i }

  same_pairs : (is : List Item) → Each (ItemWithin n) is
      → map (pair_of th (with_value a v)) is ≡ map (pair_of th a) is
  same_pairs [] h = refl
  same_pairs (i ∷ is) h = λ j.
      same_pair i (h i here) j ∷ same_pairs is (λ x m. h x (there m)) j

  same_line : (is : List Item) → Each (ItemWithin n) is
      → pairs_of th (with_value a v) is ≡ pairs_of th a is
  same_line is h = ap line.equiv (same_pairs is h)

  -- the body with the new variable
  body_meaning : (x : Sort) (F : TermTree) → Member (domain th.times x) v → IsWithin n F
      → (left : Bool)
      → translate (world_at th left) (with_value a v) [] (opened (variable x n) F)
      ≡ translate (world_at th left) a (v ∷ []) F
  body_meaning x F i h left =
      open_law (world_at th left) (with_value a v) (variable x n) F (variable_closed x n)
      ∙ (ap (λ u. translate (world_at th left) (with_value a v) (u ∷ []) F)
      (variable_value th.times x a v n many i)
      ∙ unchanged (world_at th left) a v F (v ∷ []) (there_within F h))

-- ---- sequents

module _ (th : Theory) (vars : List Sort) where
  counted : (a : Assignment) → IsAssignment th vars a → length a.variables ≡ length vars
  counted a f = fits_count th.times vars a.variables f.values

  given_more : (x : Sort) (a : Assignment) (v : Value) → IsAssignment th vars a
      → Member (domain th.times x) v → IsAssignment th (vars ++ x ∷ []) (with_value a v)
  given_more x a v f i =
      record {
        values = fits_more th.times vars a.variables x v f.values i;
        messages = f.messages;
      }

module _ (th : Theory) (vars : List Sort) (H : List TermTree) (x : Sort) (F : TermTree)
    (hyps_within : Each (IsWithin (length vars)) H) where
  abbrev new : TermTree
  new = opened (variable x (length vars)) F

  -- the body at a value
  abbrev at_value : Bool → Assignment → Value → Ground
  at_value left a v = translate (world_at th left) a (v ∷ []) F

  pub alli_trace : IsWithin (length vars) F → HoldsAt th (trace (vars ++ x ∷ []) H new)
      → HoldsAt th (trace vars H (all x F))
  alli_trace f p = λ a fit h.
      let many = counted th vars a fit in
      conj-from (λ u. false) (map (at_value true a) (domain th.times x))
      (each-map (at_value true a) (domain th.times x) (IsTrueAt (λ u. false))
      (λ v i. ap is_true (sym (body_meaning th a v (length vars) many x F i f true))
      ∙ p (with_value a v) (given_more th vars x a v fit i)
      (still_true th a v (length vars) many H hyps_within h)))

  pub alli_local : (side : Side) → IsWithin (length vars) F
      → HoldsAt th (local side (vars ++ x ∷ []) H new) → HoldsAt th (local side vars H (all x F))
  alli_local side f p = λ a fit left m.
      let many = counted th vars a fit in
      let means : TermTree → Ground = translate (world_at th left) a [] in
      ground_rule.alli th left (map means H) (map (at_value left a) (domain th.times x))
      (each-map (at_value left a) (domain th.times x) (ground_rule.Proved th left (map means H))
      (λ v i.
      let same : claim_of (world_at th left) (with_value a v) H new
      ≡ record { hyps = map means H; goal = at_value left a v } =
      λ j. record {
        hyps = same_meanings th a v (length vars) many left H hyps_within j;
        goal = body_meaning th a v (length vars) many x F i f left j;
      } in
      subst (λ (c : Claim). HasDerivation th (line.local left c)) same
      (p (with_value a v) (given_more th vars x a v fit i) left m)))

  module _ (among : Member H (some x F)) where
    body_within : IsWithin (length vars) F
    body_within = hyps_within (some x F) among

    -- at a value at which the body is true
    assumed_true : (a : Assignment) (fit : IsAssignment th vars a) (v : Value)
        → Member (domain th.times x) v → IsTrueAt (λ u. false) (at_value true a v)
        → Each (IsTrueFormula th a) H → Each (IsTrueFormula th (with_value a v)) (H ++ new ∷ [])
    assumed_true a fit v i e h =
        let many = counted th vars a fit in
        each-push H new (IsTrueFormula th (with_value a v))
        (still_true th a v (length vars) many H hyps_within h)
        (ap is_true (body_meaning th a v (length vars) many x F i body_within true) ∙ e)

    -- what follows at each value at which the body is true follows
    at_some_value : (a : Assignment) → Each (IsTrueFormula th a) H → (P : Type 0)
        → ((v : Value) → Member (domain th.times x) v → IsTrueAt (λ u. false) (at_value true a v)
        → P)
        → P
    at_some_value a h P f =
        disj-cases (λ u. false) (map (at_value true a) (domain th.times x)) P (h (some x F) among)
        (λ t i e.
        let r = member-map_from (at_value true a) (domain th.times x) t i in
        f r.0 r.1 (ap is_true (sym r.2) ∙ e))

    pub exe_trace : (g : TermTree) → IsWithin (length vars) g
        → HoldsAt th (trace (vars ++ x ∷ []) (H ++ new ∷ []) g) → HoldsAt th (trace vars H g)
    exe_trace g gw p = λ a fit h.
        at_some_value a h (IsTrueFormula th a g)
        (λ v i e.
        ap is_true (sym (same_meaning th a v (length vars) (counted th vars a fit) true g gw))
        ∙ p (with_value a v) (given_more th vars x a v fit i) (assumed_true a fit v i e h))

    pub exe_equiv : (known : List (List Item)) (items : List Item)
        → Each (Each (ItemWithin (length vars))) known → Each (ItemWithin (length vars)) items
        → HoldsAt th (equiv (vars ++ x ∷ []) (H ++ new ∷ []) known items)
        → HoldsAt th (equiv vars H known items)
    exe_equiv known items kw iw p = λ a fit h k.
        let many = counted th vars a fit in
        at_some_value a h (HasDerivation th (pairs_of th a items))
        (λ v i e.
        subst (HasDerivation th) (same_line th a v (length vars) many items iw)
        (p (with_value a v) (given_more th vars x a v fit i) (assumed_true a fit v i e h)
        (λ list m.
        subst (HasDerivation th) (sym (same_line th a v (length vars) many list (kw list m)))
        (k list m))))

    pub exe_local : (side : Side) (g : TermTree) → IsWithin (length vars) g
        → HoldsAt th (local side (vars ++ x ∷ []) (H ++ new ∷ []) g)
        → HoldsAt th (local side vars H g)
    exe_local side g gw p = λ a fit left m.
        let many = counted th vars a fit in
        let means : TermTree → Ground = translate (world_at th left) a [] in
        ground_rule.exe th left (map means H) (map (at_value left a) (domain th.times x)) (means g)
        (member-map means H (some x F) among)
        (each-map (at_value left a) (domain th.times x)
        (λ t. ground_rule.Proved th left (map means H ++ t ∷ []) (means g))
        (λ v i.
        let hyps : map (translate (world_at th left) (with_value a v) []) (H ++ new ∷ [])
        ≡ map means H ++ at_value left a v ∷ [] =
        map-append (translate (world_at th left) (with_value a v) []) H (new ∷ [])
        ∙ (λ j. same_meanings th a v (length vars) many left H hyps_within j
        ++ body_meaning th a v (length vars) many x F i body_within left j ∷ []) in
        let same : claim_of (world_at th left) (with_value a v) (H ++ new ∷ []) g
        ≡ record { hyps = map means H ++ at_value left a v ∷ []; goal = means g } =
        λ j. record {
          hyps = hyps j;
          goal = same_meaning th a v (length vars) many left g gw j;
        } in
        subst (λ (c : Claim). HasDerivation th (line.local left c)) same
        (p (with_value a v) (given_more th vars x a v fit i) left m)))
