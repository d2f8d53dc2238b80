-- The order facts are true in every trace, of positions and of what is undefined.
use Rattle.std.proofs.Common.{◌≡◌, ◌⊎◌, inl, inr, ⊎_elim, refl, ℕ, List, [], ◌∷◌, Option, Some}
use Rattle.std.proofs.Common.{None}
use Rattle.std.proofs.Common.{Bool, true, false}
use Rattle.sq_term.specs.declared.model.Value.{Value}
use Rattle.sq_term.specs.Ground.{Ground}
use Rattle.sq_term.specs.GroundFormulas.{truth_of, negation, both, either, implies}
use Rattle.sq_term.specs.Syntax.{TsTree}
use Rattle.sq_term.specs.Translate.{World, Assignment, before, is_position, is_upto, is_same_time}
use Rattle.sq_term.specs.Translate.{ts_value, translate}
use Rattle.sq_ground.specs.Truth.{IsTrueAt}
use Rattle.sq_rules_trace.specs.OrderFacts.{o1, o2, o3, o4, o5, o6, o7, o10}
use Rattle.sq_rules_trace.proofs.Order.{upto_itself, upto_trans, upto_both, upto_either}
use Rattle.sq_rules_trace.proofs.Order.{upto_happens, some_or_same, first_of_all, before_upto}
use Rattle.sq_rules_trace.proofs.Order.{before_differs, before_happens, upto_before}
use Rattle.sq_rules_trace.proofs.Truths.{on, off, implied, denied, refuted, joined, by_first}
use Rattle.sq_rules_trace.proofs.Truths.{by_second}

-- ---- at positions

module _ (v : Ground → Bool) where
  abbrev H : Option ℕ → Ground
  H p = truth_of (is_position p)

  abbrev L : Option ℕ → Option ℕ → Ground
  L p q = truth_of (is_upto p q)

  abbrev E : Option ℕ → Option ℕ → Ground
  E p q = truth_of (is_same_time p q)

  happens : (p : Option ℕ) → IsTrueAt v (H p) → is_position p ≡ true
  happens p h = off v (is_position p) h

  upto : (p q : Option ℕ) → IsTrueAt v (L p q) → is_upto p q ≡ true
  upto p q h = off v (is_upto p q) h

  differs : (p q : Option ℕ) → IsTrueAt v (negation (E p q)) → is_same_time p q ≡ true
      → false ≡ true
  differs p q h e = refuted v (E p q) h (on v (is_same_time p q) e)

  at_1 : (p : Option ℕ) → IsTrueAt v (implies (H p) (L p p))
  at_1 p = implied v (H p) (L p p) (λ h. on v (is_upto p p) (upto_itself p (happens p h)))

  at_2 : (p q r : Option ℕ) → IsTrueAt v (implies (L p q) (implies (L q r) (L p r)))
  at_2 p q r =
      implied v (L p q) (implies (L q r) (L p r)) (λ h.
      implied v (L q r) (L p r) (λ k.
      on v (is_upto p r) (upto_trans p q r (upto p q h) (upto q r k))))

  at_3 : (p q : Option ℕ) → IsTrueAt v (implies (L p q) (implies (L q p) (E p q)))
  at_3 p q =
      implied v (L p q) (implies (L q p) (E p q)) (λ h.
      implied v (L q p) (E p q) (λ k.
      on v (is_same_time p q) (upto_both p q (upto p q h) (upto q p k))))

  at_4 : (p q : Option ℕ)
      → IsTrueAt v (implies (H p) (implies (H q) (either (L p q) (L q p))))
  at_4 p q =
      implied v (H p) (implies (H q) (either (L p q) (L q p))) (λ h.
      implied v (H q) (either (L p q) (L q p)) (λ k.
      ⊎_elim
      (λ l. by_first v (L p q) (L q p) (on v (is_upto p q) l))
      (λ l. by_second v (L p q) (L q p) (on v (is_upto q p) l))
      (upto_either p q (happens p h) (happens q k))))

  at_5 : (p q : Option ℕ)
      → IsTrueAt v
      (both (implies (L p q) (both (H p) (H q))) (either (H p) (either (H q) (E p q))))
  at_5 p q =
      joined v (implies (L p q) (both (H p) (H q))) (either (H p) (either (H q) (E p q)))
      (implied v (L p q) (both (H p) (H q)) (λ h.
      let k = upto_happens p q (upto p q h) in
      joined v (H p) (H q) (on v (is_position p) k.0) (on v (is_position q) k.1)))
      (⊎_elim
      (λ h. by_first v (H p) (either (H q) (E p q)) (on v (is_position p) h))
      (λ o. by_second v (H p) (either (H q) (E p q))
      (⊎_elim
      (λ h. by_first v (H q) (E p q) (on v (is_position q) h))
      (λ e. by_second v (H q) (E p q) (on v (is_same_time p q) e)) o))
      (some_or_same p q))

  at_6 : (p : Option ℕ) → IsTrueAt v (both (H (Some 0)) (implies (H p) (L (Some 0) p)))
  at_6 p =
      joined v (H (Some 0)) (implies (H p) (L (Some 0) p)) refl
      (implied v (H p) (L (Some 0) p)
      (λ h. on v (is_upto (Some 0) p) (first_of_all p (happens p h))))

  at_7_before : (p : Option ℕ)
      → IsTrueAt v
      (implies (H (before p)) (both (L (before p) p) (negation (E (before p) p))))
  at_7_before p =
      implied v (H (before p)) (both (L (before p) p) (negation (E (before p) p))) (λ h.
      joined v (L (before p) p) (negation (E (before p) p))
      (on v (is_upto (before p) p) (before_upto p (happens (before p) h)))
      (denied v (E (before p) p)
      (λ e. before_differs p (happens (before p) h) (off v (is_same_time (before p) p) e))))

  at_7_behind : (p : Option ℕ)
      → IsTrueAt v (implies (H p) (implies (negation (E p (Some 0))) (H (before p))))
  at_7_behind p =
      implied v (H p) (implies (negation (E p (Some 0))) (H (before p))) (λ h.
      implied v (negation (E p (Some 0))) (H (before p)) (λ k.
      on v (is_position (before p)) (before_happens p (happens p h) (differs p (Some 0) k))))

  at_7 : (p : Option ℕ)
      → IsTrueAt v
      (both (implies (H (before p)) (both (L (before p) p) (negation (E (before p) p))))
      (both (implies (H p) (implies (negation (E p (Some 0))) (H (before p))))
      (negation (H (before (Some 0))))))
  at_7 p =
      joined v (implies (H (before p)) (both (L (before p) p) (negation (E (before p) p))))
      (both (implies (H p) (implies (negation (E p (Some 0))) (H (before p))))
      (negation (H (before (Some 0)))))
      (at_7_before p)
      (joined v (implies (H p) (implies (negation (E p (Some 0))) (H (before p))))
      (negation (H (before (Some 0)))) (at_7_behind p) refl)

  at_10 : (p q : Option ℕ)
      → IsTrueAt v (implies (L p q) (implies (negation (E p q)) (L p (before q))))
  at_10 p q =
      implied v (L p q) (implies (negation (E p q)) (L p (before q))) (λ h.
      implied v (negation (E p q)) (L p (before q)) (λ k.
      on v (is_upto p (before q)) (upto_before p q (upto p q h) (differs p q k))))

-- ---- of timestamps

module _ (w : World) (a : Assignment) (v : Ground → Bool) where
  abbrev at : TsTree → Option ℕ
  at t = ts_value w.times a [] t

  pub o1_true : (t : TsTree) → IsTrueAt v (translate w a [] (o1 t))
  o1_true t = at_1 v (at t)

  pub o2_true : (t s r : TsTree) → IsTrueAt v (translate w a [] (o2 t s r))
  o2_true t s r = at_2 v (at t) (at s) (at r)

  pub o3_true : (t s : TsTree) → IsTrueAt v (translate w a [] (o3 t s))
  o3_true t s = at_3 v (at t) (at s)

  pub o4_true : (t s : TsTree) → IsTrueAt v (translate w a [] (o4 t s))
  o4_true t s = at_4 v (at t) (at s)

  pub o5_true : (t s : TsTree) → IsTrueAt v (translate w a [] (o5 t s))
  o5_true t s = at_5 v (at t) (at s)

  pub o6_true : (t : TsTree) → IsTrueAt v (translate w a [] (o6 t))
  o6_true t = at_6 v (at t)

  pub o7_true : (t : TsTree) → IsTrueAt v (translate w a [] (o7 t))
  o7_true t = at_7 v (at t)

  pub o10_true : (t s : TsTree) → IsTrueAt v (translate w a [] (o10 t s))
  o10_true t s = at_10 v (at t) (at s)
