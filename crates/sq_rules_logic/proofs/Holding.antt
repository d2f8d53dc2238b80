-- How a sequent holds where its premises do, in the forms that rows share.
use Rattle.std.proofs.Common.{◌≡◌, ◌⊎◌, inl, inr, sym, subst, List, [], ◌∷◌, ◌++◌, map, Some, Bool}
use Rattle.std.proofs.Common.{true, false}
use Rattle.sq_term.specs.Lists.{Member, here, there, Each}
use Rattle.sq_term.proofs.Members.{each-map, each-push, each_none, each_cons, each_single}
use Rattle.sq_term.proofs.Members.{member-map}
use Rattle.sq_term.specs.Syntax.{TermTree}
use Rattle.sq_term.specs.Ground.{Ground}
use Rattle.sq_term.specs.Translate.{Assignment, translate}
use Rattle.sq_system.specs.Sequents.{SequentTree, trace, local, equiv, vars_of, hyps_of}
use Rattle.sq_ground.specs.Truth.{IsTrueAt}
use Rattle.sq_ground.specs.Theories.{Theory, world_at}
use Rattle.sq_ground.specs.Holding.{IsAssignment, claim_of, IsTrueFormula, HoldsAt}
use Rattle.sq_ground.proofs.Propositional.{by_none, by_one, by_two}
use Rattle.sq_sequent.specs.Views.{goal_of}
use Rattle.sq_sequent.specs.Premises.{asking, assuming}

pub each-map_push : {A B : Type 0} (f : A → B) (xs : List A) (x : A) (P : B → Type 0)
    → Each P (map f xs) → P (f x) → Each P (map f (xs ++ x ∷ []))
each-map_push f [] x P h p = each_single (f x) P p
each-map_push f (y ∷ xs) x P h p =
    each_cons (f y) (map f (xs ++ x ∷ [])) P (h (f y) here)
    (each-map_push f xs x P (λ z i. h z (there i)) p)

each-map_front : {A B : Type 0} (f : A → B) (xs : List A) (x : A) (P : B → Type 0)
    → Each P (map f (xs ++ x ∷ [])) → Each P (map f xs)
each-map_front f [] x P h = each_none P
each-map_front f (y ∷ xs) x P h =
    each_cons (f y) (map f xs) P (h (f y) here) (each-map_front f xs x P (λ z i. h z (there i)))

module _ (th : Theory) where
  -- the valuation that reads trace formulas
  abbrev plain : Ground → Bool
  plain u = false

  -- the formula is true, on a side under an assignment and a valuation
  abbrev pub TrueIn : Bool → Assignment → (Ground → Bool) → TermTree → Type 0
  TrueIn left a v t = IsTrueAt v (translate (world_at th left) a [] t)

  abbrev pub AllTrueIn : Bool → Assignment → (Ground → Bool) → List TermTree → Type 0
  AllTrueIn left a v ts = Each (IsTrueAt v) (map (translate (world_at th left) a []) ts)

  -- what holds under all valuations that make the hypotheses true
  abbrev pub Always : SequentTree → (Bool → Assignment → (Ground → Bool) → Type 0) → Type 0
  Always s P =
      (left : Bool) (a : Assignment) → IsAssignment th (vars_of s) a → (v : Ground → Bool)
      → AllTrueIn left a v (hyps_of s) → P left a v

  all_plain : (a : Assignment) (ts : List TermTree) → Each (IsTrueFormula th a) ts
      → AllTrueIn true a plain ts
  all_plain a ts h = each-map (translate (world_at th true) a []) ts (IsTrueAt plain) h

  -- one more hypothesis that is true
  also_true : (a : Assignment) (H : List TermTree) (F : TermTree) → Each (IsTrueFormula th a) H
      → TrueIn true a plain F → Each (IsTrueFormula th a) (H ++ F ∷ [])
  also_true a H F h e = each-push H F (IsTrueFormula th a) h e

  also_true_in : (left : Bool) (a : Assignment) (v : Ground → Bool) (H : List TermTree)
      (F : TermTree)
      → AllTrueIn left a v H → TrueIn left a v F → AllTrueIn left a v (H ++ F ∷ [])
  also_true_in left a v H F h e =
      each-map_push (translate (world_at th left) a []) H F (IsTrueAt v) h e

  -- a hypothesis is true where all are
  pub hyp_true : (H : List TermTree) (h : TermTree) → Member H h → (left : Bool) (a : Assignment)
      (v : Ground → Bool) → AllTrueIn left a v H → TrueIn left a v h
  hyp_true H h i left a v all =
      all (translate (world_at th left) a [] h)
      (member-map (translate (world_at th left) a []) H h i)

  -- a further hypothesis that is true anyway
  pub assume_sound : (s : SequentTree) (F : TermTree) → Always s (λ left a v. TrueIn left a v F)
      → HoldsAt th (assuming s F) → HoldsAt th s
  unfolding assuming
  assume_sound (trace vars H g) F e p = λ a f h.
      p a f (also_true a H F h (e true a f plain (all_plain a H h)))
  assume_sound (local side vars H g) F e p = λ a f left m.
      by_one th left (claim_of (world_at th left) a (H ++ F ∷ []) g)
      (claim_of (world_at th left) a H g) (p a f left m)
      (λ v q h. q (also_true_in left a v H F h (e left a f v h)))
  assume_sound (equiv vars H known items) F e p = λ a f h k.
      p a f (also_true a H F h (e true a f plain (all_plain a H h))) k

  always_more : (s : SequentTree) (F : TermTree) (P : Bool → Assignment → (Ground → Bool) → Type 0)
      → Always s P → Always (assuming s F) P
  unfolding assuming
  always_more (trace vars H g) F P e left a f v h =
      e left a f v (each-map_front (translate (world_at th left) a []) H F (IsTrueAt v) h)
  always_more (local side vars H g) F P e left a f v h =
      e left a f v (each-map_front (translate (world_at th left) a []) H F (IsTrueAt v) h)
  always_more (equiv vars H known items) F P e left a f v h =
      e left a f v (each-map_front (translate (world_at th left) a []) H F (IsTrueAt v) h)

  -- two further hypotheses that are true anyway
  pub assume_both_sound : (s : SequentTree) (F G : TermTree)
      → Always s (λ left a v. TrueIn left a v F) → Always s (λ left a v. TrueIn left a v G)
      → HoldsAt th (assuming (assuming s F) G) → HoldsAt th s
  assume_both_sound s F G e k p =
      assume_sound s F e
      (assume_sound (assuming s F) G (always_more s F (λ left a v. TrueIn left a v G) k) p)

  -- hypotheses that contradict each other
  pub absurd_sound : (s : SequentTree) → Always s (λ left a v. false ≡ true) → HoldsAt th s
  absurd_sound (trace vars H g) e = λ a f h.
      let x = e true a f plain (all_plain a H h) in absurd (cc)
  absurd_sound (local side vars H g) e = λ a f left m.
      by_none th left (claim_of (world_at th left) a H g) (λ v h. let x = e left a f v h in cc)
  absurd_sound (equiv vars H known items) e = λ a f h k.
      let x = e true a f plain (all_plain a H h) in absurd (cc)

  -- F is asked, and G, which follows with it, is a further hypothesis
  pub cut_sound : (s : SequentTree) (F G : TermTree)
      → Always s (λ left a v. TrueIn left a v F → TrueIn left a v G)
      → HoldsAt th (asking s F) → HoldsAt th (assuming s G) → HoldsAt th s
  unfolding asking assuming
  cut_sound (trace vars H g) F G e p q = λ a f h.
      q a f (also_true a H G h (e true a f plain (all_plain a H h) (p a f h)))
  cut_sound (local side vars H g) F G e p q = λ a f left m.
      by_two th left (claim_of (world_at th left) a H F)
      (claim_of (world_at th left) a (H ++ G ∷ []) g) (claim_of (world_at th left) a H g)
      (p a f left m) (q a f left m)
      (λ v x y h. y (also_true_in left a v H G h (e left a f v h (x h))))
  cut_sound (equiv vars H known items) F G e p q = λ a f h k.
      q a f (also_true a H G h (e true a f plain (all_plain a H h) (p a f h))) k

  -- F is asked, which contradicts the hypotheses
  pub contrary_sound : (s : SequentTree) (F : TermTree)
      → Always s (λ left a v. TrueIn left a v F → false ≡ true) → HoldsAt th (asking s F)
      → HoldsAt th s
  unfolding asking
  contrary_sound (trace vars H g) F e p = λ a f h.
      let x = e true a f plain (all_plain a H h) (p a f h) in absurd (cc)
  contrary_sound (local side vars H g) F e p = λ a f left m.
      by_one th left (claim_of (world_at th left) a H F) (claim_of (world_at th left) a H g)
      (p a f left m) (λ v x h. let y = e left a f v h (x h) in cc)
  contrary_sound (equiv vars H known items) F e p = λ a f h k.
      let x = e true a f plain (all_plain a H h) (p a f h) in absurd (cc)

  -- two cases, each with its hypothesis
  pub cases_sound : (s : SequentTree) (F G : TermTree)
      → Always s (λ left a v. TrueIn left a v F ⊎ TrueIn left a v G)
      → HoldsAt th (assuming s F) → HoldsAt th (assuming s G) → HoldsAt th s
  unfolding assuming
  cases_sound (trace vars H g) F G e p q = λ a f h.
      elim (e true a f plain (all_plain a H h)) [
        | inl x ↦ p a f (also_true a H F h x)
        | inr y ↦ q a f (also_true a H G h y)
      ]
  cases_sound (local side vars H g) F G e p q = λ a f left m.
      by_two th left (claim_of (world_at th left) a (H ++ F ∷ []) g)
      (claim_of (world_at th left) a (H ++ G ∷ []) g) (claim_of (world_at th left) a H g)
      (p a f left m) (q a f left m)
      (λ v x y h. elim (e left a f v h) [
        | inl i ↦ x (also_true_in left a v H F h i)
        | inr j ↦ y (also_true_in left a v H G h j)
      ])
  cases_sound (equiv vars H known items) F G e p q = λ a f h k.
      elim (e true a f plain (all_plain a H h)) [
        | inl x ↦ p a f (also_true a H F h x) k
        | inr y ↦ q a f (also_true a H G h y) k
      ]

  -- ---- rows of a goal g

  module _ (s : SequentTree) (g : TermTree) (asks : goal_of s ≡ Some g) where
    -- it is true wherever the hypotheses are
    pub goal_sound : Always s (λ left a v. TrueIn left a v g) → HoldsAt th s
    unfolding goal_of
    goal_sound = of s asks
      where
        of : (q : SequentTree) → goal_of q ≡ Some g → Always q (λ left a v. TrueIn left a v g)
            → HoldsAt th q
        of (trace vars H c) e w = λ a f h.
            let x : c ≡ g = cc in
            subst (IsTrueFormula th a) (sym x) (w true a f plain (all_plain a H h))
        of (local side vars H c) e w = λ a f left m.
            by_none th left (claim_of (world_at th left) a H c)
            (λ v h. let x : c ≡ g = cc in subst (TrueIn left a v) (sym x) (w left a f v h))
        of (equiv vars H known items) e w = absurd (cc)

    -- it follows from what is asked
    pub asked_sound : (F : TermTree) → Always s (λ left a v. TrueIn left a v F → TrueIn left a v g)
        → HoldsAt th (asking s F) → HoldsAt th s
    unfolding goal_of asking
    asked_sound F = of s asks
      where
        of : (q : SequentTree) → goal_of q ≡ Some g
            → Always q (λ left a v. TrueIn left a v F → TrueIn left a v g)
            → HoldsAt th (asking q F) → HoldsAt th q
        of (trace vars H c) e w p = λ a f h.
            let x : c ≡ g = cc in
            subst (IsTrueFormula th a) (sym x) (w true a f plain (all_plain a H h) (p a f h))
        of (local side vars H c) e w p = λ a f left m.
            by_one th left (claim_of (world_at th left) a H F) (claim_of (world_at th left) a H c)
            (p a f left m)
            (λ v q h. let x : c ≡ g = cc in subst (TrueIn left a v) (sym x) (w left a f v h (q h)))
        of (equiv vars H known items) e w p = absurd (cc)

    -- it follows from two that are asked
    pub both_asked_sound : (F G : TermTree)
        → Always s (λ left a v. TrueIn left a v F → TrueIn left a v G → TrueIn left a v g)
        → HoldsAt th (asking s F) → HoldsAt th (asking s G) → HoldsAt th s
    unfolding goal_of asking
    both_asked_sound F G = of s asks
      where
        of : (q : SequentTree) → goal_of q ≡ Some g
            → Always q (λ left a v. TrueIn left a v F → TrueIn left a v G → TrueIn left a v g)
            → HoldsAt th (asking q F) → HoldsAt th (asking q G) → HoldsAt th q
        of (trace vars H c) e w p r = λ a f h.
            let x : c ≡ g = cc in
            subst (IsTrueFormula th a) (sym x)
            (w true a f plain (all_plain a H h) (p a f h) (r a f h))
        of (local side vars H c) e w p r = λ a f left m.
            by_two th left (claim_of (world_at th left) a H F) (claim_of (world_at th left) a H G)
            (claim_of (world_at th left) a H c) (p a f left m) (r a f left m)
            (λ v i j h.
            let x : c ≡ g = cc in subst (TrueIn left a v) (sym x) (w left a f v h (i h) (j h)))
        of (equiv vars H known items) e w p r = absurd (cc)

    -- it is true where B follows from A
    pub intro_sound : (A B : TermTree)
        → Always s (λ left a v. (TrueIn left a v A → TrueIn left a v B) → TrueIn left a v g)
        → HoldsAt th (assuming (asking s B) A) → HoldsAt th s
    unfolding goal_of asking assuming
    intro_sound A B = of s asks
      where
        of : (q : SequentTree) → goal_of q ≡ Some g
            → Always q (λ left a v. (TrueIn left a v A → TrueIn left a v B) → TrueIn left a v g)
            → HoldsAt th (assuming (asking q B) A) → HoldsAt th q
        of (trace vars H c) e w p = λ a f h.
            let x : c ≡ g = cc in
            subst (IsTrueFormula th a) (sym x)
            (w true a f plain (all_plain a H h) (λ y. p a f (also_true a H A h y)))
        of (local side vars H c) e w p = λ a f left m.
            by_one th left (claim_of (world_at th left) a (H ++ A ∷ []) B)
            (claim_of (world_at th left) a H c) (p a f left m)
            (λ v q h.
            let x : c ≡ g = cc in
            subst (TrueIn left a v) (sym x)
            (w left a f v h (λ y. q (also_true_in left a v H A h y))))
        of (equiv vars H known items) e w p = absurd (cc)
