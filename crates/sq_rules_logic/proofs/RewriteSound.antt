-- The row that rewrites keeps what holds: equal timestamps and indices mean the same, equal
-- messages and equivalent formulas are alike.
use Rattle.std.proofs.Common.{◌≡◌, ℕ, zero, suc, ◌==◌, refl, sym, ap, ◌∙◌, subst, List, [], ◌∷◌}
use Rattle.std.proofs.Common.{map, Option, Some, None, Bool, true, false}
use Rattle.std.specs.Prelude.{slice_set, if◌then◌else◌}
use Rattle.std.proofs.lemmas.Bool.Decides.{Decides-eqb}
use Rattle.sq_base.specs.declared.sort.Sort.{Sort}
use Rattle.sq_base.specs.declared.sort.Sort.TheVariants.{Message, Boolean, Index, Timestamp}
use Rattle.sq_term.specs.declared.term.Idx.{Idx}
use Rattle.sq_term.specs.declared.term.Side.{Side}
use Rattle.sq_term.specs.Arguments.{an_index, a_time}
use Rattle.sq_term.specs.Closed.{idx_closed, ts_closed}
use Rattle.sq_term.specs.Formulas.{implies, equal, equivalent}
use Rattle.sq_term.specs.Ground.{Ground}
use Rattle.sq_term.specs.GroundFormulas as ground
use Rattle.sq_term.specs.GroundFormulas.{truth_of}
use Rattle.sq_term.specs.Lists.{Member, here, there, Each}
use Rattle.sq_term.specs.Signatures.{is_boolean_sort}
use Rattle.sq_term.specs.Symbols as kind
use Rattle.sq_term.specs.Syntax.{TsTree, TermTree, ts_eq, idx_eq}
use Rattle.sq_term.specs.Translate.{Assignment, translate, ts_value, idx_value, is_same_time}
use Rattle.sq_term.proofs.BoolTests.{and_split}
use Rattle.sq_term.proofs.Members.{member-map, each_none, each_cons}
use Rattle.sq_typing.specs.Functions.{are_functions}
use Rattle.sq_typing.specs.Standing.{Subject, of_trace, of_side, may_stand}
use Rattle.sq_typing.specs.Typing.{Signature, is_index, is_timestamp, has_sort}
use Rattle.sq_typing.proofs.Formulas.{sort-of, suits-of, first-stands, second-stands}
use Rattle.sq_subst.proofs.Laws.{replace_ts_law, replace_idx_law}
use Rattle.sq_system.specs.Sequents.{Item, item, SequentTree, trace, local, equiv, hyps_of, body_of}
use Rattle.sq_system.specs.WellFormed.{is_sorted}
use Rattle.sq_ground.specs.Derivations.{HasDerivation}
use Rattle.sq_ground.specs.Holding.{claim_of, IsTrueFormula, pair_of, HoldsAt}
use Rattle.sq_ground.specs.Lines.{alike}
use Rattle.sq_ground.specs.Lines as line
use Rattle.sq_ground.specs.Theories.{Theory, world_at}
use Rattle.sq_ground.specs.Truth.{value, is_true, IsTrueAt}
use Rattle.sq_ground.proofs.Congruence.{alike_itself, replaced_law}
use Rattle.sq_ground.proofs.Propositional.{Proved, claim, by_one, by_two, valid, if_to, and_from}
use Rattle.sq_ground.proofs.Propositional.{and_left, and_right}
use Rattle.sq_ground.proofs.Propositional as ground_rule
use Rattle.sq_step.specs.declared.step.Dir.{Dir}
use Rattle.sq_step.specs.declared.step.Dir.TheVariants.{Forward, Backward}
use Rattle.sq_step.specs.declared.step.Target.{Target}
use Rattle.sq_sequent.specs.Premises.{asking, with_hyps}
use Rattle.sq_sequent.specs.Rewriting.{Rewriting, term_by, time_by, index_by, turned, rewritten}
use Rattle.sq_sequent.specs.Rewriting.{item_rewritten}
use Rattle.sq_sequent.specs.Rows.{IsOn, Assumes, Equates, Rewritten}
use Rattle.sq_sequent.specs.Site.{Site}
use Rattle.sq_sequent.specs.Views.{goal_of, hyp_of}
use Rattle.sq_formula.proofs.ClosedSorts.{sorted-closed}
use Rattle.sq_sequent.proofs.Hypotheses.{get_member}
use Rattle.sq_sequent.proofs.Values.{value-closed}
use Rattle.sq_rules_logic.proofs.EqualityRules.{symmetric}
use Rattle.sq_rules_logic.proofs.Holding.{hyp_true}
use Rattle.sq_rules_logic.proofs.Sorted.{goal-stands, hyp-stands}

-- ---- truth of equations

told : (b : Bool) (v : Ground → Bool) → value v (truth_of b) ≡ true → b ≡ true
told true v h = refl
told false v h = h

same_times : (t u : Option ℕ) → is_same_time t u ≡ true → t ≡ u
same_times (Some p) (Some q) e = ap Some ((Decides-eqb p q).0 e)
same_times (Some p) None e = let z : false ≡ true = e in absurd (cc)
same_times None (Some q) e = let z : false ≡ true = e in absurd (cc)
same_times None None e = refl

-- ---- lists

each_set : {A B : Type 0} (f : A → B) (xs : List A) (k : ℕ) (x : A) (P : B → Type 0)
    → Each P (map f xs) → P (f x) → Each P (map f (slice_set xs k x))
each_set f [] k x P h p = each_none P
each_set f (y ∷ ys) zero x P h p = each_cons (f x) (map f ys) P p (λ z i. h z (there i))
each_set f (y ∷ ys) (suc k) x P h p =
    each_cons (f y) (map f (slice_set ys k x)) P (h (f y) here)
    (each_set f ys k x P (λ z i. h z (there i)) p)

each_kept : {A : Type 0} (xs : List A) (k : ℕ) (x : A) (P : A → Type 0) → Each P xs → P x
    → Each P (slice_set xs k x)
each_kept [] k x P h p = each_none P
each_kept (y ∷ ys) zero x P h p = each_cons x ys P p (λ z i. h z (there i))
each_kept (y ∷ ys) (suc k) x P h p =
    each_cons y (slice_set ys k x) P (h y here) (each_kept ys k x P (λ z i. h z (there i)) p)

-- ---- the parts of a hypothesis that rewrites

module _ (g : Signature) (about : Subject) where
  times-stand : (x y : TsTree) → may_stand g about Boolean (ts_eq x y) ≡ true
      → (ts_closed 0 x ≡ true) × (ts_closed 0 y ≡ true)
  times-stand x y h =
      let p = and_split (is_timestamp g [] x) (is_timestamp g [] y)
      (and_split true _ (sort-of g about Boolean (ts_eq x y) h)).1 in
      (value-closed g Timestamp (a_time x) p.0, value-closed g Timestamp (a_time y) p.1)

  indices-stand : (i j : Idx) → may_stand g about Boolean (idx_eq i j) ≡ true
      → (idx_closed 0 i ≡ true) × (idx_closed 0 j ≡ true)
  indices-stand i j h =
      let p = and_split (is_index g [] i) (is_index g [] j)
      (and_split true _ (sort-of g about Boolean (idx_eq i j) h)).1 in
      (value-closed g Index (an_index i) p.0, value-closed g Index (an_index j) p.1)

module _ (th : Theory) where
  -- ---- timestamps and indices

  -- each term means on a side what it did
  abbrev Keeping : Bool → Assignment → Rewriting → Type 0
  Keeping left a r =
      (t : TermTree)
      → translate (world_at th left) a [] (rewritten r t) ≡ translate (world_at th left) a [] t

  -- two timestamps or indices without loose bound variables, of one value
  abbrev HaveOneValue : Assignment → Rewriting → Type 0
  HaveOneValue a (term_by u v) = ⊥
  HaveOneValue a (time_by x y) =
      (ts_closed 0 x ≡ true) × (ts_closed 0 y ≡ true)
      × (ts_value th.times a [] x ≡ ts_value th.times a [] y)
  HaveOneValue a (index_by i j) =
      (idx_closed 0 i ≡ true) × (idx_closed 0 j ≡ true) × (idx_value a [] i ≡ idx_value a [] j)

  turned_value : (a : Assignment) (d : Dir) (r : Rewriting) → HaveOneValue a r
      → HaveOneValue a (turned d r)
  turned_value a Forward r e = e
  turned_value a Backward (term_by u v) e = e
  turned_value a Backward (time_by x y) e = (e.1, e.0, sym e.2)
  turned_value a Backward (index_by i j) e = (e.1, e.0, sym e.2)

  keeping : (left : Bool) (a : Assignment) (r : Rewriting) → HaveOneValue a r → Keeping left a r
  keeping left a (term_by u v) e = absurd e
  keeping left a (time_by x y) e = λ t. replace_ts_law (world_at th left) a x y e.0 e.1 e.2 [] t
  keeping left a (index_by i j) e = λ t. replace_idx_law (world_at th left) a i j e.0 e.1 e.2 [] t

  -- no message equation is a trace formula, and only a local sequent rewrites by an equivalence
  value_of : (g : Signature) (at : Site) (F : TermTree) (r : Rewriting) (a : Assignment)
      → ((s : Side) → IsOn (body_of at.sequent) s → ⊥) → may_stand g of_trace Boolean F ≡ true
      → Equates at F r → IsTrueFormula th a F → HaveOneValue a r
  value_of g at F r a n s (Equates.messages u v) h =
      let z : false ≡ true = suits-of g of_trace Boolean (equal u v) s in absurd (cc)
  value_of g at F r a n s (Equates.times x y) h =
      let p = times-stand g of_trace x y s in (
        p.0,
        p.1,
        same_times (ts_value th.times a [] x) (ts_value th.times a [] y)
            (told (is_same_time (ts_value th.times a [] x) (ts_value th.times a [] y))
            (λ u. false) h),
      )
  value_of g at F r a n s (Equates.indices i j) h =
      let p = indices-stand g of_trace i j s in (
        p.0,
        p.1,
        (Decides-eqb (idx_value a [] i) (idx_value a [] j)).0
            (told (idx_value a [] i == idx_value a [] j) (λ u. false) h),
      )
  value_of g at F r a n s (Equates.formulas side b c on) h = absurd (n side on)

  -- ---- local sequents

  module _ (left : Bool) (a : Assignment) (H : List TermTree) where
    abbrev read : TermTree → Ground
    read t = translate (world_at th left) a [] t

    abbrev hyps : List Ground
    hyps = map (translate (world_at th left) a []) H

    -- the formula and the result imply each other
    abbrev AreEquivalent : Rewriting → TermTree → Type 0
    AreEquivalent r t = Proved th left hyps (ground.equivalent (read t) (read (rewritten r t)))

    -- by an equation of timestamps or indices, whose meaning is its truth
    by_truth_of : (F : TermTree) (r : Rewriting) → Member H F → (b : Bool) → read F ≡ truth_of b
        → (b ≡ true → Keeping left a r) → (t : TermTree) → AreEquivalent r t
    by_truth_of F r m true e k t =
        subst (λ u. Proved th left hyps (ground.equivalent (read t) u)) (sym (k refl t))
        (alike_itself th left hyps true (read t))
    by_truth_of F r m false e k t =
        valid th left hyps (ground.equivalent (read t) (read (rewritten r t)))
        (λ v h.
        let z : false ≡ true =
        told false v (ap (value v) (sym e) ∙ hyp_true th H F m left a v h) in absurd (cc))

    turned_iff : (x y : Bool) → (if (if x then y else true) then (if y then x else true) else false)
        ≡ true
        → (if (if y then x else true) then (if x then y else true) else false) ≡ true
    turned_iff x y e =
        and_from (if y then x else true) (if x then y else true)
        (and_right (if x then y else true) (if y then x else true) e)
        (and_left (if x then y else true) (if y then x else true) e)

    turned_alike : (b : Bool) (u v : Ground) → Proved th left hyps (alike b u v)
        → Proved th left hyps (alike b v u)
    turned_alike true u v p =
        by_one th left (claim hyps (ground.equivalent u v)) (claim hyps (ground.equivalent v u)) p
        (λ w f h. turned_iff (value w u) (value w v) (f h))
    turned_alike false u v p = symmetric th left hyps v u p

    hyp_proved : (F : TermTree) → Member H F → Proved th left hyps (read F)
    hyp_proved F m =
        ground_rule.hyp th left hyps (read F)
        (member-map (translate (world_at th left) a []) H F m)

    module _ (g : Signature) (about : Subject) (known : g.funs ≡ th.funs)
        (ok : are_functions g.funs ≡ true) where
      -- two terms of one sort, which are alike
      record AreAlike (u v : TermTree) : Type 0 where
        sort : Sort
        first : has_sort g [] sort u ≡ true
        second : has_sort g [] sort v ≡ true
        alike : Proved th left hyps (alike (is_boolean_sort sort) (read u) (read v))

      by_terms : (u v t : TermTree) → AreAlike u v → may_stand g about Boolean t ≡ true
          → AreEquivalent (term_by u v) t
      by_terms u v t k h =
          replaced_law th left hyps g known ok a k.sort u v (sorted-closed g k.sort u k.first)
          (sorted-closed g k.sort v k.second) k.first k.alike [] [] Boolean t
          (sort-of g about Boolean t h)

      turned_terms : (d : Dir) (u v t : TermTree) → AreAlike u v
          → may_stand g about Boolean t ≡ true
          → AreEquivalent (turned d (term_by u v)) t
      turned_terms Forward u v t k h = by_terms u v t k h
      turned_terms Backward u v t k h =
          by_terms v u t
          (record {
            sort = k.sort;
            first = k.second;
            second = k.first;
            alike = turned_alike (is_boolean_sort k.sort) (read u) (read v) k.alike;
          }) h

      equivalent-by : (at : Site) (F : TermTree) (r : Rewriting) (d : Dir) → Member H F
          → may_stand g about Boolean F ≡ true → Equates at F r
          → (t : TermTree) → may_stand g about Boolean t ≡ true → AreEquivalent (turned d r) t
      equivalent-by at F r d m s (Equates.messages u v) t h =
          turned_terms d u v t
          (record {
            sort = Message;
            first = sort-of g about Message u (first-stands g about Boolean kind.equality u v s);
            second = sort-of g about Message v (second-stands g about Boolean kind.equality u v s);
            alike = hyp_proved (equal u v) m;
          }) h
      equivalent-by at F r d m s (Equates.formulas side u v on) t h =
          let p = first-stands g about Boolean kind.conjunction (implies u v) (implies v u) s in
          turned_terms d u v t
          (record {
            sort = Boolean;
            first = sort-of g about Boolean u (first-stands g about Boolean kind.implication u v p);
            second = sort-of g about Boolean v
                (second-stands g about Boolean kind.implication u v p);
            alike = hyp_proved (equivalent u v) m;
          }) h
      equivalent-by at F r d m s (Equates.times x y) t h =
          let p = times-stand g about x y s in
          let test : Bool = is_same_time (ts_value th.times a [] x) (ts_value th.times a [] y) in
          by_truth_of (ts_eq x y) (turned d (time_by x y)) m test refl
          (λ q. keeping left a (turned d (time_by x y))
          (turned_value a d (time_by x y)
          (p.0, p.1, same_times (ts_value th.times a [] x) (ts_value th.times a [] y) q))) t
      equivalent-by at F r d m s (Equates.indices i j) t h =
          let p = indices-stand g about i j s in
          by_truth_of (idx_eq i j) (turned d (index_by i j)) m
          (idx_value a [] i == idx_value a [] j) refl
          (λ q. keeping left a (turned d (index_by i j))
          (turned_value a d (index_by i j)
          (p.0, p.1, (Decides-eqb (idx_value a [] i) (idx_value a [] j)).0 q))) t

  -- ---- sequents

  -- what a rewriting is, where the hypotheses are taken for granted
  abbrev Serves : Signature → SequentTree → Rewriting → Type 0
  Serves g (trace vars H c) r =
      (left : Bool) (a : Assignment) → Each (IsTrueFormula th a) H → Keeping left a r
  Serves g (local side vars H c) r =
      (left : Bool) (a : Assignment) (t : TermTree) → may_stand g (of_side side) Boolean t ≡ true
      → AreEquivalent left a H r t
  Serves g (equiv vars H known items) r =
      (left : Bool) (a : Assignment) → Each (IsTrueFormula th a) H → Keeping left a r

  goal_true : (a : Assignment) (r : Rewriting) (t : TermTree) → Keeping true a r
      → IsTrueFormula th a (rewritten r t) → IsTrueFormula th a t
  goal_true a r t k h = ap is_true (sym (k t)) ∙ h

  hyp_kept : (a : Assignment) (r : Rewriting) (t : TermTree) → Keeping true a r
      → IsTrueFormula th a t → IsTrueFormula th a (rewritten r t)
  hyp_kept a r t k h = ap is_true (k t) ∙ h

  in_goal : (g : Signature) (s : SequentTree) (r : Rewriting) (c : TermTree) → Serves g s r
      → is_sorted g s ≡ true → goal_of s ≡ Some c → HoldsAt th (asking s (rewritten r c))
      → HoldsAt th s
  unfolding goal_of asking
  in_goal g (trace vars H c) r t k w e p = λ a f h.
      let z : c ≡ t = cc in
      subst (IsTrueFormula th a) (sym z) (goal_true a r t (k true a h) (p a f h))
  in_goal g (local side vars H c) r t k w e p = λ a f left m.
      let z : c ≡ t = cc in
      let q = goal-stands g (local side vars H c) t w e in
      let x = translate (world_at th left) a [] t in
      let y = translate (world_at th left) a [] (rewritten r t) in
      subst
      (λ u. Proved th left (map (translate (world_at th left) a []) H)
      (translate (world_at th left) a [] u)) (sym z)
      (by_two th left (claim_of (world_at th left) a H (rewritten r t))
      (claim (map (translate (world_at th left) a []) H) (ground.equivalent x y))
      (claim_of (world_at th left) a H t) (p a f left m) (k left a t q)
      (λ v i j h.
      if_to (value v y) (value v x)
      (and_right (if value v x then value v y else true) (if value v y then value v x else true)
      (j h))
      (i h)))
  in_goal g (equiv vars H known items) r t k w e p = absurd (cc)

  in_hyp : (g : Signature) (s : SequentTree) (r : Rewriting) (n : ℕ) (t : TermTree) → Serves g s r
      → is_sorted g s ≡ true → hyp_of s n ≡ Some t
      → HoldsAt th (with_hyps (slice_set (hyps_of s) n (rewritten r t)) s) → HoldsAt th s
  unfolding hyp_of with_hyps
  in_hyp g (trace vars H c) r n t k w e p = λ a f h.
      p a f
      (each_kept H n (rewritten r t) (IsTrueFormula th a) h
      (hyp_kept a r t (k true a h) (h t (get_member H n t e))))
  in_hyp g (local side vars H c) r n t k w e p = λ a f left m.
      let q = hyp-stands g (local side vars H c) n t w e in
      let x = translate (world_at th left) a [] t in
      let y = translate (world_at th left) a [] (rewritten r t) in
      by_two th left (claim_of (world_at th left) a (slice_set H n (rewritten r t)) c)
      (claim (map (translate (world_at th left) a []) H) (ground.equivalent x y))
      (claim_of (world_at th left) a H c) (p a f left m) (k left a t q)
      (λ v i j h.
      i (each_set (translate (world_at th left) a []) H n (rewritten r t) (IsTrueAt v) h
      (if_to (value v x) (value v y)
      (and_left (if value v x then value v y else true) (if value v y then value v x else true)
      (j h))
      (hyp_true th H t (get_member H n t e) left a v h))))
  in_hyp g (equiv vars H known items) r n t k w e p = λ a f h l.
      p a f
      (each_kept H n (rewritten r t) (IsTrueFormula th a) h
      (hyp_kept a r t (k true a h) (h t (get_member H n t e)))) l

  same_pairs : (a : Assignment) (r : Rewriting) → Keeping true a r → Keeping false a r
      → (items : List Item)
      → map (pair_of th a) (map (item_rewritten r) items) ≡ map (pair_of th a) items
  same_pairs a r k l [] = refl
  same_pairs a r k l (item t u ∷ items) = λ i.
      record { left = k t i; right = l u i } ∷ same_pairs a r k l items i

  in_items : (g : Signature) (vars : List Sort) (H : List TermTree) (known : List (List Item))
      (items : List Item) (r : Rewriting) → Serves g (equiv vars H known items) r
      → HoldsAt th (equiv vars H known (map (item_rewritten r) items))
      → HoldsAt th (equiv vars H known items)
  in_items g vars H known items r k p = λ a f t l.
      subst (λ qs. HasDerivation th (line.equiv qs))
      (same_pairs a r (k true a t) (k false a t) items) (p a f t l)

  at_target : (g : Signature) (at : Site) (r : Rewriting) (h : ℕ) (p : Target)
      (premise : SequentTree)
      → Serves g at.sequent r → is_sorted g at.sequent ≡ true → Rewritten at h r p premise
      → HoldsAt th premise → HoldsAt th at.sequent
  at_target g at r h p premise k w (Rewritten.in_goal c e) holds =
      in_goal g at.sequent r c k w e holds
  at_target g at r h p premise k w (Rewritten.in_hypothesis n t other e) holds =
      in_hyp g at.sequent r n t k w e holds
  at_target g at r h p premise k w (Rewritten.in_items vars H known items e) holds =
      subst (HoldsAt th) (sym e)
      (in_items g vars H known items r (subst (λ s. Serves g s r) e k) holds)

  module _ (g : Signature) (known : g.funs ≡ th.funs) (ok : are_functions g.funs ≡ true) where
    serves : (at : Site) (s : SequentTree) → at.sequent ≡ s → (h : ℕ) (F : TermTree) (r : Rewriting)
        (d : Dir) → is_sorted g s ≡ true → hyp_of s h ≡ Some F → Equates at F r
        → Serves g s (turned d r)
    unfolding hyp_of
    serves at (trace vars H c) same h F r d w q e = λ left a all.
        keeping left a (turned d r)
        (turned_value a d r
        (value_of g at F r a (λ s on. subst (λ x. IsOn (body_of x) s) same on)
        (hyp-stands g (trace vars H c) h F w q) e (all F (get_member H h F q))))
    serves at (equiv vars H known items) same h F r d w q e = λ left a all.
        keeping left a (turned d r)
        (turned_value a d r
        (value_of g at F r a (λ s on. subst (λ x. IsOn (body_of x) s) same on)
        (hyp-stands g (equiv vars H known items) h F w q) e (all F (get_member H h F q))))
    serves at (local side vars H c) same h F r d w q e = λ left a t i.
        equivalent-by left a H g (of_side side) known ok at F r d (get_member H h F q)
        (hyp-stands g (local side vars H c) h F w q) e t i

    pub rew_sound : (at : Site) (h : ℕ) (d : Dir) (p : Target) (F : TermTree) (r : Rewriting)
        (premise : SequentTree) → is_sorted g at.sequent ≡ true → Assumes at h F → Equates at F r
        → Rewritten at h (turned d r) p premise → HoldsAt th premise → HoldsAt th at.sequent
    rew_sound at h d p F r premise w q e made holds =
        at_target g at (turned d r) h p premise
        (serves at at.sequent refl h F r d w q e) w made holds
