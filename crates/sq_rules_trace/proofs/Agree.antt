-- The premises that are computed for a step are those of its row.
use Rattle.std.proofs.Common.{◌≡◌, ◌≢◌, refl, sym, ap, ◌∙◌, subst, ℕ, List, [], ◌∷◌, Option, Some}
use Rattle.std.proofs.Common.{None, Bool, true, false, ◌&&◌}
use Rattle.std.specs.Prelude.{option_map, if◌then◌else◌}
use Rattle.std.specs.List.{list_all}
use Rattle.sq_base.specs.declared.sort.Sort.TheVariants.{Timestamp}
use Rattle.sq_term.specs.declared.term.Idx.{Idx}
use Rattle.sq_term.specs.declared.term.Macro.{Macro}
use Rattle.sq_term.specs.declared.term.Macro.TheVariants.{Input, Output, Cond, Exec, Frame}
use Rattle.sq_term.specs.declared.term.Side.{Side}
use Rattle.sq_term.specs.Formulas.{negation}
use Rattle.sq_term.specs.Lists.{here, there, Each}
use Rattle.sq_term.specs.Syntax.{TsTree, free, bound, init, pred, action, TermTree, happens}
use Rattle.sq_term.specs.Systems.{Choice, action_at, clash}
use Rattle.sq_term.proofs.BoolTests.{and_split, and_both}
use Rattle.sq_term.proofs.Members.{each_none, each_cons}
use Rattle.sq_typing.specs.Typing.{has_sort_at}
use Rattle.sq_system.specs.Sequents.{Body, trace_body, local_body, equiv_body, SequentTree, vars_of}
use Rattle.sq_system.specs.Sequents.{hyps_of, body_of}
use Rattle.sq_step.specs.declared.step.Step.{Step}
use Rattle.sq_step.specs.declared.step.Step.TheVariants as step
use Rattle.sq_step.specs.declared.step.TsArg.{TsArg}
use Rattle.sq_sequent.specs.Facts.{assumed_fact}
use Rattle.sq_sequent.specs.Premises.{asking, assuming}
use Rattle.sq_sequent.specs.Rows.{IsOn, IsLocal}
use Rattle.sq_sequent.specs.Site.{Site}
use Rattle.sq_sequent.specs.Standing.{time_in}
use Rattle.sq_sequent.specs.Views.{goal_of}
use Rattle.sq_rules_trace.specs.ActionFacts.{o8, o9, o11, o12}
use Rattle.sq_rules_trace.specs.Induction.{earlier, is_free_of}
use Rattle.sq_rules_trace.specs.Laws.{TimeRowsAgree}
use Rattle.sq_rules_trace.specs.OrderFacts.{o1, o2, o3, o4, o5, o6, o7, o10}
use Rattle.sq_rules_trace.specs.Rows.{system_at, IsTime, TimeFact, TimeRow}
use Rattle.sq_rules_trace.specs.Time.{of_two, of_three, of_instance, of_instances, clash_fact}
use Rattle.sq_rules_trace.specs.Time.{time_fact, tind_on, made_of_before, behind_init, at_action}
use Rattle.sq_rules_trace.specs.Time.{x_at, x_on, xu_at, xu_on, time_row}
use Rattle.sq_rules_trace.specs.Unfolding.{has_value, initial, undefined, Unfolds}

all_each : {A : Type 0} (p : A → Bool) (xs : List A) → list_all p xs ≡ true
    → Each (λ x. p x ≡ true) xs
all_each p [] h = each_none (λ x. p x ≡ true)
all_each p (x ∷ xs) h =
    let k = and_split (p x) (list_all p xs) h in
    each_cons x xs (λ y. p y ≡ true) k.0 (all_each p xs k.1)

each_all : {A : Type 0} (p : A → Bool) (xs : List A) → Each (λ x. p x ≡ true) xs
    → list_all p xs ≡ true
each_all p [] h = refl
each_all p (x ∷ xs) h =
    and_both (p x) (list_all p xs) (h x here) (each_all p xs (λ y i. h y (there i)))

module _ (at : Site) where
  abbrev s : SequentTree
  s = at.sequent

  abbrev With : TermTree → List SequentTree
  With F = assuming s F ∷ []

  -- ---- from the computed premises to the fact

  one : (f : TsTree → TermTree) (o : Option TsTree) (ps : List SequentTree)
      → assumed_fact s (option_map f o) ≡ Some ps
      → (t : TsTree) × (o ≡ Some t) × (ps ≡ With (f t))
  one f None ps e = absurd (cc)
  one f (Some t) ps e = let z : ps ≡ With (f t) = cc in (t, refl, z)

  two : (f : TsTree → TsTree → TermTree) (o q : Option TsTree) (ps : List SequentTree)
      → assumed_fact s (of_two f o q) ≡ Some ps
      → (t : TsTree) × (u : TsTree) × (o ≡ Some t) × (q ≡ Some u) × (ps ≡ With (f t u))
  two f None q ps e = absurd (cc)
  two f (Some t) None ps e = absurd (cc)
  two f (Some t) (Some u) ps e = let z : ps ≡ With (f t u) = cc in (t, u, refl, refl, z)

  three : (f : TsTree → TsTree → TsTree → TermTree) (o q r : Option TsTree)
      (ps : List SequentTree)
      → assumed_fact s (of_three f o q r) ≡ Some ps
      → (t : TsTree) × (u : TsTree) × (w : TsTree) × (o ≡ Some t) × (q ≡ Some u) × (r ≡ Some w)
      × (ps ≡ With (f t u w))
  three f None q r ps e = absurd (cc)
  three f (Some t) q r ps e =
      let k = two (f t) q r ps e in (t, k.0, k.1, refl, k.2, k.3, k.4)

  instance : (f : ℕ → List Idx → TermTree) (o : Option TsTree) (ps : List SequentTree)
      → assumed_fact s (of_instance f o) ≡ Some ps
      → (a : ℕ) × (is : List Idx) × (o ≡ Some (action a is)) × (ps ≡ With (f a is))
  unfolding of_instance
  instance f (Some (action a is)) ps e = let z : ps ≡ With (f a is) = cc in (a, is, refl, z)
  instance f _ ps e = absurd (cc)

  -- two instances of which f tells a formula
  record Told (f : ℕ → List Idx → ℕ → List Idx → Option TermTree) (o q : Option TsTree)
      (ps : List SequentTree) : Type 0 where
    a : ℕ
    is : List Idx
    b : ℕ
    js : List Idx
    F : TermTree
    first : o ≡ Some (action a is)
    second : q ≡ Some (action b js)
    tells : f a is b js ≡ Some F
    made : ps ≡ With F

  instances : (f : ℕ → List Idx → ℕ → List Idx → Option TermTree) (o q : Option TsTree)
      (ps : List SequentTree) → assumed_fact s (of_instances f o q) ≡ Some ps → Told f o q ps
  unfolding of_instances
  instances f (Some (action a is)) (Some (action b js)) ps e = told (f a is b js) refl e
    where
      told : (r : Option TermTree) → f a is b js ≡ r → assumed_fact s r ≡ Some ps
          → Told f (Some (action a is)) (Some (action b js)) ps
      told None g h = absurd (cc)
      told (Some F) g h = record {
        a = a;
        is = is;
        b = b;
        js = js;
        F = F;
        first = refl;
        second = refl;
        tells = g;
        made = cc;
      }
  instances f _ _ ps e = absurd (cc)

  by : (x : Step) (F : TermTree) (ps : List SequentTree) → TimeFact at x F → ps ≡ With F
      → TimeRow at x ps
  by x F ps known e = subst (TimeRow at x) (sym e) (TimeRow.fact x F known)

  fact-8-back : (x y : TsArg) (ps : List SequentTree)
      → Told (λ a is b js. Some (o8 a is b js)) (time_in at x) (time_in at y) ps
      → TimeRow at (step.O8 x y) ps
  fact-8-back x y ps r =
      let z : o8 r.a r.is r.b r.js ≡ r.F = cc (r.tells) in
      by (step.O8 x y) (o8 r.a r.is r.b r.js) ps
      (TimeFact.o8 x y r.a r.b r.is r.js r.first r.second)
      (r.made ∙ ap With (sym z))

  fact-12-back : (x y : TsArg) (k : ℕ) (ps : List SequentTree)
      → Told (clash_fact (system_at at) k) (time_in at x) (time_in at y) ps
      → TimeRow at (step.O12 x y k) ps
  fact-12-back x y k ps r =
      go (clash (action_at (system_at at) r.a).path (action_at (system_at at) r.b).path k) refl
      r.tells
    where
      go : (o : Option Choice)
          → clash (action_at (system_at at) r.a).path (action_at (system_at at) r.b).path k ≡ o
          → option_map (o12 r.a r.is r.b r.js) o ≡ Some r.F → TimeRow at (step.O12 x y k) ps
      go None e h = absurd (cc)
      go (Some c) e h =
          let z : o12 r.a r.is r.b r.js c ≡ r.F = cc in
          by (step.O12 x y k) (o12 r.a r.is r.b r.js c) ps
          (TimeFact.o12 x y k r.a r.b r.is r.js c r.first r.second e) (r.made ∙ ap With (sym z))

  -- ---- induction

  tind-back : (v : ℕ) (o : Option TermTree) (ps : List SequentTree) → goal_of s ≡ o
      → tind_on s v o ≡ Some ps → TimeRow at (step.Tind v) ps
  tind-back v None ps q e = absurd (cc)
  tind-back v (Some g) ps q e =
      go (has_sort_at (vars_of s) v Timestamp && list_all (is_free_of v) (hyps_of s)) refl e
    where
      go : (b : Bool)
          → (has_sort_at (vars_of s) v Timestamp && list_all (is_free_of v) (hyps_of s)) ≡ b
          → (if b then Some (With (earlier v g)) else None) ≡ Some ps
          → TimeRow at (step.Tind v) ps
      go false f h = absurd (cc)
      go true f h =
          let z : ps ≡ With (earlier v g) = cc in
          let k = and_split (has_sort_at (vars_of s) v Timestamp)
          (list_all (is_free_of v) (hyps_of s)) f in
          subst (TimeRow at (step.Tind v)) (sym z)
          (TimeRow.tind v g q k.0 (all_each (is_free_of v) (hyps_of s) k.1))

  -- ---- macros

  Unfolded : Macro → TsTree → TermTree → TermTree → List SequentTree
  Unfolded m t c u = asking s c ∷ assuming s (has_value m t u) ∷ []

  module _ (x : TsArg) (side : Side) (on : IsLocal at side) where
    by_value : (m : Macro) (t : TsTree) (c u : TermTree) (ps : List SequentTree) → IsTime at x t
        → Unfolds (system_at at) side m t c u
        → ps ≡ asking s c ∷ assuming s (has_value m t u) ∷ []
        → TimeRow at (step.X m x) ps
    by_value m t c u ps e k q =
        subst (TimeRow at (step.X m x)) (sym q) (TimeRow.x m x side t c u on e k)

    before-back : (m : Macro) (t : TsTree) (ps : List SequentTree) → t ≢ init → IsTime at x t
        → behind_init s m t (made_of_before m t) ≡ Some ps → TimeRow at (step.X m x) ps
    before-back Input t ps d e h = by_value Input t _ _ ps e (Unfolds.input t d) (cc)
    before-back Exec t ps d e h = by_value Exec t _ _ ps e (Unfolds.exec t d) (cc)
    before-back Frame t ps d e h = by_value Frame t _ _ ps e (Unfolds.frame t d) (cc)
    before-back Output t ps d e h = absurd (cc)
    before-back Cond t ps d e h = absurd (cc)

    action-back : (m : Macro) (n : ℕ) (is : List Idx) (ps : List SequentTree)
        → IsTime at x (action n is) → at_action at side m n is ≡ Some ps
        → TimeRow at (step.X m x) ps
    action-back Output n is ps e h =
        by_value Output (action n is) _ _ ps e (Unfolds.output n is) (cc)
    action-back Cond n is ps e h = by_value Cond (action n is) _ _ ps e (Unfolds.cond n is) (cc)
    action-back Input n is ps e h =
        before-back Input (action n is) ps (λ f. absurd (let g : action n is ≡ init = f in cc)) e h
    action-back Exec n is ps e h =
        before-back Exec (action n is) ps (λ f. absurd (let g : action n is ≡ init = f in cc)) e h
    action-back Frame n is ps e h =
        before-back Frame (action n is) ps (λ f. absurd (let g : action n is ≡ init = f in cc)) e h

    x-at-back : (m : Macro) (o : Option TsTree) (ps : List SequentTree) → time_in at x ≡ o
        → x_at at side m o ≡ Some ps → TimeRow at (step.X m x) ps
    unfolding x_at
    x-at-back m None ps e h = absurd (cc)
    x-at-back m (Some init) ps e h =
        let z : ps ≡ With (initial m) = cc in
        subst (TimeRow at (step.X m x)) (sym z) (TimeRow.x_init m x side on e)
    x-at-back m (Some (action n is)) ps e h = action-back m n is ps e h
    x-at-back m (Some (free k)) ps e h =
        before-back m (free k) ps (λ f. absurd (let g : free k ≡ init = f in cc)) e h
    x-at-back m (Some (bound k)) ps e h =
        before-back m (bound k) ps (λ f. absurd (let g : bound k ≡ init = f in cc)) e h
    x-at-back m (Some (pred t)) ps e h =
        before-back m (pred t) ps (λ f. absurd (let g : pred t ≡ init = f in cc)) e h

    xu-at-back : (m : Macro) (o : Option TsTree) (ps : List SequentTree) → time_in at x ≡ o
        → xu_at s m o ≡ Some ps → TimeRow at (step.Xu m x) ps
    xu-at-back m None ps e h = absurd (cc)
    xu-at-back m (Some t) ps e h =
        let z : ps ≡ asking s (negation (happens t)) ∷ assuming s (undefined m t) ∷ [] = cc in
        subst (TimeRow at (step.Xu m x)) (sym z) (TimeRow.xu m x side t on e)

  on_side : (b : Body) (side : Side) (g : TermTree) → body_of s ≡ b → b ≡ local_body side g
      → IsLocal at side
  on_side b side g e f = subst (λ c. IsOn c side) (sym (e ∙ f)) refl

  x-back : (m : Macro) (x : TsArg) (b : Body) (ps : List SequentTree) → body_of s ≡ b
      → x_on at b m x ≡ Some ps → TimeRow at (step.X m x) ps
  x-back m x (trace_body g) ps q e = absurd (cc)
  x-back m x (local_body side g) ps q e =
      x-at-back x side (on_side (local_body side g) side g q refl) m (time_in at x) ps refl e
  x-back m x (equiv_body known items) ps q e = absurd (cc)

  xu-back : (m : Macro) (x : TsArg) (b : Body) (ps : List SequentTree) → body_of s ≡ b
      → xu_on at b m x ≡ Some ps → TimeRow at (step.Xu m x) ps
  xu-back m x (trace_body g) ps q e = absurd (cc)
  xu-back m x (local_body side g) ps q e =
      xu-at-back x side (on_side (local_body side g) side g q refl) m (time_in at x) ps refl e
  xu-back m x (equiv_body known items) ps q e = absurd (cc)

  row-back : (x : Step) (ps : List SequentTree) → time_row at x ≡ Some ps → TimeRow at x ps
  unfolding time_row time_fact
  row-back (step.O1 x) ps e =
      let r = one o1 (time_in at x) ps e in by _ _ ps (TimeFact.o1 x r.0 r.1) r.2
  row-back (step.O2 x y z) ps e =
      let r = three o2 (time_in at x) (time_in at y) (time_in at z) ps e in
      by _ _ ps (TimeFact.o2 x y z r.0 r.1 r.2 r.3 r.4 r.5) r.6
  row-back (step.O3 x y) ps e =
      let r = two o3 (time_in at x) (time_in at y) ps e in
      by _ _ ps (TimeFact.o3 x y r.0 r.1 r.2 r.3) r.4
  row-back (step.O4 x y) ps e =
      let r = two o4 (time_in at x) (time_in at y) ps e in
      by _ _ ps (TimeFact.o4 x y r.0 r.1 r.2 r.3) r.4
  row-back (step.O5 x y) ps e =
      let r = two o5 (time_in at x) (time_in at y) ps e in
      by _ _ ps (TimeFact.o5 x y r.0 r.1 r.2 r.3) r.4
  row-back (step.O6 x) ps e =
      let r = one o6 (time_in at x) ps e in by _ _ ps (TimeFact.o6 x r.0 r.1) r.2
  row-back (step.O7 x) ps e =
      let r = one o7 (time_in at x) ps e in by _ _ ps (TimeFact.o7 x r.0 r.1) r.2
  row-back (step.O8 x y) ps e =
      fact-8-back x y ps
      (instances (λ a is b js. Some (o8 a is b js)) (time_in at x) (time_in at y) ps e)
  row-back (step.O9 x) ps e =
      let r = one (o9 (system_at at)) (time_in at x) ps e in by _ _ ps (TimeFact.o9 x r.0 r.1) r.2
  row-back (step.O10 x y) ps e =
      let r = two o10 (time_in at x) (time_in at y) ps e in
      by _ _ ps (TimeFact.o10 x y r.0 r.1 r.2 r.3) r.4
  row-back (step.O11 x) ps e =
      let r = instance (o11 (system_at at)) (time_in at x) ps e in
      by _ _ ps (TimeFact.o11 x r.0 r.1 r.2) r.3
  row-back (step.O12 x y k) ps e =
      fact-12-back x y k ps
      (instances (clash_fact (system_at at) k) (time_in at x) (time_in at y) ps e)
  row-back (step.Tind v) ps e = tind-back v (goal_of s) ps refl e
  row-back (step.X m x) ps e = x-back m x (body_of s) ps refl e
  row-back (step.Xu m x) ps e = xu-back m x (body_of s) ps refl e
  row-back _ ps e = absurd (cc)

  -- ---- from the row to the computed premises

  two-there : (f : TsTree → TsTree → TermTree) (o q : Option TsTree) (t u : TsTree) → o ≡ Some t
      → q ≡ Some u → assumed_fact s (of_two f o q) ≡ Some (With (f t u))
  two-there f o q t u e g =
      ap (λ r. assumed_fact s (of_two f r q)) e ∙ ap (λ r. assumed_fact s (of_two f (Some t) r)) g

  fact-there : (x : Step) (F : TermTree) → TimeFact at x F → time_row at x ≡ Some (With F)
  unfolding time_row time_fact of_instance of_instances
  fact-there _ _ (TimeFact.o1 x t e) = ap (λ o. assumed_fact s (option_map o1 o)) e
  fact-there _ _ (TimeFact.o2 x y z t u w e g h) =
      ap (λ o. assumed_fact s (of_three o2 o (time_in at y) (time_in at z))) e
      ∙ two-there (o2 t) (time_in at y) (time_in at z) u w g h
  fact-there _ _ (TimeFact.o3 x y t u e g) = two-there o3 (time_in at x) (time_in at y) t u e g
  fact-there _ _ (TimeFact.o4 x y t u e g) = two-there o4 (time_in at x) (time_in at y) t u e g
  fact-there _ _ (TimeFact.o5 x y t u e g) = two-there o5 (time_in at x) (time_in at y) t u e g
  fact-there _ _ (TimeFact.o6 x t e) = ap (λ o. assumed_fact s (option_map o6 o)) e
  fact-there _ _ (TimeFact.o7 x t e) = ap (λ o. assumed_fact s (option_map o7 o)) e
  fact-there _ _ (TimeFact.o8 x y a b is js e g) =
      ap (λ o. assumed_fact s (of_instances (λ a is b js. Some (o8 a is b js)) o (time_in at y))) e
      ∙ ap (λ o. assumed_fact s
      (of_instances (λ a is b js. Some (o8 a is b js)) (Some (action a is)) o)) g
  fact-there _ _ (TimeFact.o9 x t e) =
      ap (λ o. assumed_fact s (option_map (o9 (system_at at)) o)) e
  fact-there _ _ (TimeFact.o10 x y t u e g) = two-there o10 (time_in at x) (time_in at y) t u e g
  fact-there _ _ (TimeFact.o11 x a is e) =
      ap (λ o. assumed_fact s (of_instance (o11 (system_at at)) o)) e
  fact-there _ _ (TimeFact.o12 x y k a b is js c e g h) =
      ap (λ o. assumed_fact s (of_instances (clash_fact (system_at at) k) o (time_in at y))) e
      ∙ (ap
      (λ o. assumed_fact s (of_instances (clash_fact (system_at at) k) (Some (action a is)) o))
      g
      ∙ ap (λ o. assumed_fact s (option_map (o12 a is b js) o)) h)

  by_value-there : (side : Side) (m : Macro) (t : TsTree) (c u : TermTree)
      → Unfolds (system_at at) side m t c u
      → x_at at side m (Some t) ≡ Some (asking s c ∷ assuming s (has_value m t u) ∷ [])
  unfolding x_at
  by_value-there side _ _ _ _ (Unfolds.output n is) = refl
  by_value-there side _ _ _ _ (Unfolds.cond n is) = refl
  by_value-there side _ _ _ _ (Unfolds.input init d) = absurd (d refl)
  by_value-there side _ _ _ _ (Unfolds.input (free k) d) = refl
  by_value-there side _ _ _ _ (Unfolds.input (bound k) d) = refl
  by_value-there side _ _ _ _ (Unfolds.input (pred t) d) = refl
  by_value-there side _ _ _ _ (Unfolds.input (action n is) d) = refl
  by_value-there side _ _ _ _ (Unfolds.exec init d) = absurd (d refl)
  by_value-there side _ _ _ _ (Unfolds.exec (free k) d) = refl
  by_value-there side _ _ _ _ (Unfolds.exec (bound k) d) = refl
  by_value-there side _ _ _ _ (Unfolds.exec (pred t) d) = refl
  by_value-there side _ _ _ _ (Unfolds.exec (action n is) d) = refl
  by_value-there side _ _ _ _ (Unfolds.frame init d) = absurd (d refl)
  by_value-there side _ _ _ _ (Unfolds.frame (free k) d) = refl
  by_value-there side _ _ _ _ (Unfolds.frame (bound k) d) = refl
  by_value-there side _ _ _ _ (Unfolds.frame (pred t) d) = refl
  by_value-there side _ _ _ _ (Unfolds.frame (action n is) d) = refl

  x-on-there : (b : Body) (side : Side) (m : Macro) (x : TsArg) → IsOn b side
      → x_on at b m x ≡ x_at at side m (time_in at x)
  x-on-there (trace_body g) side m x on = absurd on
  x-on-there (local_body own g) side m x on = ap (λ q. x_at at q m (time_in at x)) on
  x-on-there (equiv_body known items) side m x on = absurd on

  xu-on-there : (b : Body) (side : Side) (m : Macro) (x : TsArg) → IsOn b side
      → xu_on at b m x ≡ xu_at s m (time_in at x)
  xu-on-there (trace_body g) side m x on = absurd on
  xu-on-there (local_body own g) side m x on = refl
  xu-on-there (equiv_body known items) side m x on = absurd on

  row-there : (x : Step) (ps : List SequentTree) → TimeRow at x ps → time_row at x ≡ Some ps
  unfolding time_row x_at
  row-there _ _ (TimeRow.fact x F known) = fact-there x F known
  row-there _ _ (TimeRow.tind v g asks sort unheld_by) =
      ap (tind_on s v) asks
      ∙ ap (λ b. if b then Some (With (earlier v g)) else None)
      (and_both (has_sort_at (vars_of s) v Timestamp) (list_all (is_free_of v) (hyps_of s)) sort
      (each_all (is_free_of v) (hyps_of s) unheld_by))
  row-there _ _ (TimeRow.x_init m x side on e) =
      x-on-there (body_of s) side m x on ∙ ap (x_at at side m) e
  row-there _ _ (TimeRow.x m x side t c u on e k) =
      x-on-there (body_of s) side m x on
      ∙ (ap (x_at at side m) e ∙ by_value-there side m t c u k)
  row-there _ _ (TimeRow.xu m x side t on e) =
      xu-on-there (body_of s) side m x on ∙ ap (xu_at s m) e

-- the premises that are computed are those of the row
pub rows_agree : (at : Site) (x : Step) → TimeRowsAgree at x
rows_agree at x ps = (row-back at x ps, row-there at x ps)
