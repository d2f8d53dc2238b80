-- Induction over time: what follows at each timestamp from what holds at the earlier ones holds.
use Rattle.std.proofs.Common.{◌≡◌, ◌⊎◌, inl, inr, refl, sym, ap, ◌∙◌, subst, ℕ, zero, suc, ◌<◌, ◌≤◌}
use Rattle.std.proofs.Common.{List, [], ◌∷◌, ◌++◌, map, Option, Some, None, Bool, true, false}
use Rattle.std.proofs.Common.{arith}
use Rattle.std.specs.Prelude.{get_or}
use Rattle.std.proofs.lemmas.List.{map-append}
use Rattle.sq_base.specs.declared.sort.Sort.{Sort}
use Rattle.sq_base.specs.declared.sort.Sort.TheVariants.{Timestamp}
use Rattle.sq_term.specs.declared.model.Value.{Value}
use Rattle.sq_term.specs.declared.model.Value.TheVariants.{Time as Moment}
use Rattle.sq_term.specs.Closed.{is_closed}
use Rattle.sq_term.specs.Formulas as formula
use Rattle.sq_term.specs.Ground.{Ground}
use Rattle.sq_term.specs.GroundFormulas.{truth_of, negation, both, implies}
use Rattle.sq_term.specs.Lists.{Member, here, there, Each, count}
use Rattle.sq_term.specs.Syntax.{TermTree, free, bound, le, ts_eq}
use Rattle.sq_term.specs.Translate.{Times, World, Assignment, number_of, time_of, is_position}
use Rattle.sq_term.specs.Translate.{is_upto}
use Rattle.sq_term.specs.Translate.{is_same_time, domain, translate}
use Rattle.sq_term.proofs.Lists.{map_same}
use Rattle.sq_term.proofs.Members.{each-map, each-push}
use Rattle.sq_typing.specs.Typing.{has_sort_at}
use Rattle.sq_subst.specs.Renaming.{closed_over}
use Rattle.sq_system.specs.Sequents.{SequentTree, trace, local, equiv, vars_of, hyps_of}
use Rattle.sq_ground.specs.Derivations.{HasDerivation}
use Rattle.sq_ground.specs.Holding.{IsAssignment, IsTrueFormula, HoldsAt}
use Rattle.sq_ground.specs.Lines as line
use Rattle.sq_ground.specs.Theories.{Theory, world_at}
use Rattle.sq_ground.specs.Truth.{is_true, IsTrueAt}
use Rattle.sq_ground.proofs.Propositional.{claim, Proved, by_one, valid, alli, cut, conj-from}
use Rattle.sq_sequent.specs.Premises.{assuming}
use Rattle.sq_sequent.specs.Views.{goal_of}
use Rattle.sq_rules_trace.specs.Induction.{earlier, is_free_of}
use Rattle.sq_rules_trace.proofs.Order.{upto_happens, earlier_position}
use Rattle.sq_rules_trace.proofs.OtherTimes.{put_other, put_here, put_fits, value_there, at_time}
use Rattle.sq_rules_trace.proofs.OtherTimes.{at_own_time, unheld, closed_meaning}
use Rattle.sq_rules_trace.proofs.Truths.{on, off, implied, refuted, first_part, second_part}

abbrev nothing : Value
nothing = Moment None

-- ---- over the values of a timestamp

-- y is a position before that of x
record Earlier (y x : Value) : Type 0 where
  pub upto : is_upto (time_of y) (time_of x) ≡ true
  pub differs : is_same_time (time_of y) (time_of x) ≡ true → false ≡ true

undefined : {P : Type 0} {o : Option ℕ} → o ≡ None → is_position o ≡ true → P
undefined e h = absurd (let f : false ≡ true = sym (ap is_position e) ∙ h in cc)

module _ (w : Times) (Goal : Value → Type 0)
    (step : (x : Value) → Member (domain w Timestamp) x
    → ((y : Value) → Member (domain w Timestamp) y → Earlier y x → Goal y) → Goal x) where
  until : (n : ℕ) (x : Value) → Member (domain w Timestamp) x → (p : ℕ) → time_of x ≡ Some p
      → p < n → Goal x
  until zero x i p e l = absurd (omega arith)
  until (suc n) x i p e l =
      step x i (λ y j r.
      let q : (k : ℕ) × (time_of y ≡ Some k) × (k < p) =
      earlier_position (time_of y) (time_of x) p e r.upto r.differs in
      let b : q.0 < p = q.2 in
      until n y j q.0 q.1 (omega arith))

  over_time : (x : Value) → Member (domain w Timestamp) x → Goal x
  over_time x i = by_place (time_of x) refl
    where
      by_place : (o : Option ℕ) → time_of x ≡ o → Goal x
      by_place (Some p) e = until (suc p) x i p e (omega arith)
      by_place None e =
          step x i (λ y j r. undefined e (upto_happens (time_of y) (time_of x) r.upto).1)

-- ---- the guard of what is assumed

abbrev guard : Option ℕ → Option ℕ → Ground
guard o q = both (truth_of (is_upto o q)) (negation (truth_of (is_same_time o q)))

guard_cases : (y x : Value) (q : Option ℕ) → q ≡ time_of x
    → ((v : Ground → Bool) → IsTrueAt v (guard (time_of y) q) → false ≡ true) ⊎ Earlier y x
guard_cases y x q e = by_tests (is_upto (time_of y) q) refl (is_same_time (time_of y) q) refl
  where
    by_tests : (b : Bool) → is_upto (time_of y) q ≡ b → (c : Bool) → is_same_time (time_of y) q ≡ c
        → ((v : Ground → Bool) → IsTrueAt v (guard (time_of y) q) → false ≡ true) ⊎ Earlier y x
    by_tests false f c g =
        inl (λ v h.
        let z : is_upto (time_of y) q ≡ true =
        off v (is_upto (time_of y) q)
        (first_part v (truth_of (is_upto (time_of y) q))
        (negation (truth_of (is_same_time (time_of y) q))) h) in
        sym f ∙ z)
    by_tests true f true g =
        inl (λ v h.
        refuted v (truth_of (is_same_time (time_of y) q))
        (second_part v (truth_of (is_upto (time_of y) q))
        (negation (truth_of (is_same_time (time_of y) q))) h)
        (on v (is_same_time (time_of y) q) g))
    by_tests true f false g =
        inr (record {
          upto = subst (λ o. is_upto (time_of y) o ≡ true) e f;
          differs = λ z.
              sym (subst (λ o. is_same_time (time_of y) o ≡ false) e g) ∙ z;
        })

no_numbers : (w : Times) → Each (λ u. number_of u ≡ 0) (domain w Timestamp)
no_numbers w =
    each-push (map (λ p. Moment (Some p)) (count 0 w.positions)) (Moment None)
    (λ u. number_of u ≡ 0)
    (each-map (λ p. Moment (Some p)) (count 0 w.positions) (λ u. number_of u ≡ 0)
    (λ p i. refl)) refl

-- ---- at an assignment

module _ (th : Theory) (vars : List Sort) (H : List TermTree) (g : TermTree) (v : ℕ)
    (sort : has_sort_at vars v Timestamp ≡ true) (unheld_by : Each (λ h. is_free_of v h ≡ true) H)
    (closed : is_closed 0 g ≡ true) (a : Assignment) (f : IsAssignment th vars a) where
  abbrev D : List Value
  D = domain th.times Timestamp

  abbrev A : Value → Assignment
  A x = at_time v a x

  there_is : (x : Value) → get_or (A x).variables v nothing ≡ x
  there_is x = put_here th.times vars a.variables v x f.values sort

  fits_at : (x : Value) → Member D x → IsAssignment th vars (A x)
  fits_at x i =
      record {
        values = put_fits th.times vars a.variables v x f.values sort i;
        messages = f.messages;
      }

  own : Member D (get_or a.variables v nothing)
  own = value_there th.times vars a.variables v f.values sort

  hyp_same : (left : Bool) (x : Value) → Member D x → (h : TermTree) → Member H h
      → translate (world_at th left) a [] h ≡ translate (world_at th left) (A x) [] h
  hyp_same left x i h m =
      unheld (world_at th left) a v x (no_numbers th.times (get_or a.variables v nothing) own)
      (no_numbers th.times x i) (there_is x) h (unheld_by h m)

  -- the goal at y, as it stands under the quantifier at x
  abbrev below : Bool → Value → Value → Ground
  below left x y = translate (world_at th left) (A x) (y ∷ []) (closed_over v g)

  goal_same : (left : Bool) (x y : Value)
      → translate (world_at th left) (A y) [] g ≡ below left x y
  goal_same left x y =
      closed_meaning (world_at th left) (A y) (A x) v y (there_is y)
      (λ k d. put_other v y a.variables k d ∙ sym (put_other v x a.variables k d)) refl g closed

  abbrev time : Value → Option ℕ
  time x = time_of (get_or (A x).variables v nothing)

  time_is : (x : Value) → time x ≡ time_of x
  time_is x = ap time_of (there_is x)

  abbrev case_at : Bool → Value → Value → Ground
  case_at left x y = implies (guard (time_of y) (time x)) (below left x y)

  abbrev cases : Bool → Value → List Ground
  cases left x =
      map
      (λ y. translate (world_at th left) (A x) (y ∷ [])
      (formula.implies
      (formula.both (le (bound 0) (free v)) (formula.negation (ts_eq (bound 0) (free v))))
      (closed_over v g)))
      D

  -- ---- of the trace

  abbrev plain : Ground → Bool
  plain u = false

  module _ (p : HoldsAt th (trace vars (H ++ earlier v g ∷ []) g))
      (hyps : Each (IsTrueFormula th a) H) where
    true_case : (x y : Value)
        → (Earlier y x → IsTrueFormula th (A y) g) → IsTrueAt plain (case_at true x y)
    true_case x y ih =
        implied plain (guard (time_of y) (time x)) (below true x y) (λ k.
        elim (guard_cases y x (time x) (time_is x)) [
          | inl h ↦ absurd (let z : false ≡ true = h plain k in cc)
          | inr e ↦ subst (IsTrueAt plain) (goal_same true x y) (ih e)
        ])

    true_step : (x : Value) → Member D x
        → ((y : Value) → Member D y → Earlier y x → IsTrueFormula th (A y) g)
        → IsTrueFormula th (A x) g
    true_step x i ih =
        p (A x) (fits_at x i)
        (each-push H (earlier v g) (IsTrueFormula th (A x))
        (λ h m. ap is_true (sym (hyp_same true x i h m)) ∙ hyps h m)
        (conj-from plain (cases true x)
        (each-map (λ y. case_at true x y) D (IsTrueAt plain)
        (λ y j. true_case x y (ih y j)))))

    true_goal : IsTrueFormula th a g
    true_goal =
        subst (λ c. IsTrueFormula th c g) (at_own_time v a)
        (over_time th.times (λ x. IsTrueFormula th (A x) g) true_step
        (get_or a.variables v nothing) own)

  -- ---- of a side

  module _ (left : Bool)
      (p : (x : Value) → Member D x
      → Proved th left (map (translate (world_at th left) (A x) []) (H ++ earlier v g ∷ []))
      (translate (world_at th left) (A x) [] g)) where
    abbrev read : Assignment → TermTree → Ground
    read c t = translate (world_at th left) c [] t

    abbrev HH : List Ground
    HH = map (read a) H

    proved_case : (x y : Value) → (Earlier y x → Proved th left HH (read (A y) g))
        → Proved th left HH (case_at left x y)
    proved_case x y ih = elim (guard_cases y x (time x) (time_is x)) [
      | inl h ↦
          valid th left HH (case_at left x y) (λ u k.
          implied u (guard (time_of y) (time x)) (below left x y) (λ c.
          let z : false ≡ true = h u c in absurd (cc)))
      | inr e ↦
          by_one th left (claim HH (below left x y)) (claim HH (case_at left x y))
          (subst (Proved th left HH) (goal_same left x y) (ih e))
          (λ u q k. implied u (guard (time_of y) (time x)) (below left x y) (λ c. q k))
    ]

    hyps_same : (x : Value) → Member D x
        → map (read (A x)) (H ++ earlier v g ∷ []) ≡ HH ++ read (A x) (earlier v g) ∷ []
    hyps_same x i =
        map-append (read (A x)) H (earlier v g ∷ [])
        ∙ ap (λ hs. hs ++ read (A x) (earlier v g) ∷ [])
        (map_same (read (A x)) (read a) H (λ h m. sym (hyp_same left x i h m)))

    proved_step : (x : Value) → Member D x
        → ((y : Value) → Member D y → Earlier y x → Proved th left HH (read (A y) g))
        → Proved th left HH (read (A x) g)
    proved_step x i ih =
        cut th left HH (read (A x) (earlier v g)) (read (A x) g)
        (alli th left HH (cases left x)
        (each-map (λ y. case_at left x y) D (Proved th left HH)
        (λ y j. proved_case x y (ih y j))))
        (subst (λ hs. Proved th left hs (read (A x) g)) (hyps_same x i) (p x i))

    proved_goal : Proved th left HH (read a g)
    proved_goal =
        subst (λ c. Proved th left HH (read c g)) (at_own_time v a)
        (over_time th.times (λ x. Proved th left HH (read (A x) g)) proved_step
        (get_or a.variables v nothing) own)

-- ---- on sequents

pub tind_sound : (th : Theory) (s : SequentTree) (v : ℕ) (g : TermTree) → goal_of s ≡ Some g
    → has_sort_at (vars_of s) v Timestamp ≡ true → Each (λ h. is_free_of v h ≡ true) (hyps_of s)
    → is_closed 0 g ≡ true → HoldsAt th (assuming s (earlier v g)) → HoldsAt th s
unfolding goal_of assuming
tind_sound th (trace vars H c) v g e sort unheld_by closed p =
    let z : c ≡ g = cc in
    let q : HoldsAt th (trace vars (H ++ earlier v g ∷ []) g) =
    subst (λ t. HoldsAt th (trace vars (H ++ earlier v g ∷ []) t)) z p in
    subst (λ t. HoldsAt th (trace vars H t)) (sym z)
    (λ a f hyps. true_goal th vars H g v sort unheld_by closed a f q hyps)
tind_sound th (local side vars H c) v g e sort unheld_by closed p =
    let z : c ≡ g = cc in
    let q : HoldsAt th (local side vars (H ++ earlier v g ∷ []) g) =
    subst (λ t. HoldsAt th (local side vars (H ++ earlier v g ∷ []) t)) z p in
    subst (λ t. HoldsAt th (local side vars H t)) (sym z)
    (λ a f left m.
    proved_goal th vars H g v sort unheld_by closed a f left
    (λ x i. q (at_time v a x) (fits_at th vars H g v sort unheld_by closed a f x i) left m))
tind_sound th (equiv vars H known items) v g e sort unheld_by closed p = absurd (cc)
