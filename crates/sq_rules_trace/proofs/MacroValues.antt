-- The values of macros along a trace give the facts of `x` and `xu` by the rules for equality.
use Rattle.std.proofs.Common.{◌≡◌, ◌⊎◌, inl, inr, refl, sym, ap, ◌∙◌, subst, ℕ, zero, suc, ◌<◌}
use Rattle.std.proofs.Common.{List}
use Rattle.std.proofs.Common.{[], ◌∷◌, length, map, Option, Some, None, Bool, true, false, arith}
use Rattle.std.specs.Prelude.{not}
use Rattle.sq_base.specs.declared.sort.Sort.TheVariants.{Message, Boolean}
use Rattle.sq_term.specs.declared.model.Inst.{Inst}
use Rattle.sq_term.specs.declared.model.Model.{Model}
use Rattle.sq_term.specs.declared.model.Value.TheVariants.{Index as Number}
use Rattle.sq_term.specs.declared.signature.FunDecl.{FunDecl}
use Rattle.sq_term.specs.declared.term.Idx.{Idx}
use Rattle.sq_term.specs.declared.term.Macro.{Macro}
use Rattle.sq_term.specs.declared.term.Macro.TheVariants.{Input, Output, Cond, Exec, Frame}
use Rattle.sq_term.specs.declared.term.Side.{Side}
use Rattle.sq_term.specs.declared.term.Side.TheVariants.{Left, Right, Both}
use Rattle.sq_term.specs.Closed.{indices_closed, ts_closed}
use Rattle.sq_term.specs.Ground.{Ground}
use Rattle.sq_term.specs.GroundFormulas.{truth_of, truth, falsity, negation, both, implies, equal}
use Rattle.sq_term.specs.GroundFormulas.{equivalent, empty, unary, conditional, pair, of_bool}
use Rattle.sq_term.specs.Lists.{Member, here, there, ElementAt}
use Rattle.sq_term.specs.Macros.{GroundMacro, word}
use Rattle.sq_term.specs.Models.{times_of, IsTraceModel}
use Rattle.sq_term.specs.Records.{Record, own_indices, field, at_init, at_undefined, record_at}
use Rattle.sq_term.specs.Records.{world}
use Rattle.sq_term.specs.Symbols as kind
use Rattle.sq_term.specs.Syntax.{TsTree, init, action, TermTree, happens}
use Rattle.sq_term.specs.Systems.{SystemTree, action_at}
use Rattle.sq_term.specs.Translate.{World, Assignment, idx_value, idx_values, before, ts_value}
use Rattle.sq_term.specs.Translate.{is_position, is_same_time, translate}
use Rattle.sq_subst.specs.Laws.{is_read_on}
use Rattle.sq_system.specs.Facts.{IsSystem}
use Rattle.sq_system.specs.Statements.{EnvTree}
use Rattle.sq_system.specs.WellFormed.{is_well_sorted}
use Rattle.sq_ground.specs.Derivations.{HasDerivation}
use Rattle.sq_ground.specs.Goals.{theory_at}
use Rattle.sq_ground.specs.Holding.{sides_of}
use Rattle.sq_ground.specs.Lines.{fact}
use Rattle.sq_ground.specs.Rules.{FollowsBy}
use Rattle.sq_ground.specs.Theories.{Theory, world_at}
use Rattle.sq_ground.specs.Truth.{IsTrueAt}
use Rattle.sq_ground.proofs.Derivations.{derive_outright}
use Rattle.sq_ground.proofs.Propositional.{valid, true_goal}
use Rattle.sq_ground.proofs.Traces.{records_meet}
use Rattle.sq_rules_trace.specs.Unfolding.{has_value, initial, undefined, body_at, is_behind_init}
use Rattle.sq_rules_trace.specs.Unfolding.{Unfolds}
use Rattle.sq_rules_trace.proofs.BodyMeaning.{body_meaning}
use Rattle.sq_rules_trace.proofs.Instances.{IsAt, placed-at, element_there, below}
use Rattle.sq_rules_trace.proofs.Order.{happens_at}
use Rattle.sq_rules_trace.proofs.Systems.{body_sorts}
use Rattle.sq_rules_trace.proofs.Truths.{on, off, implied, denied, refuted, joined, first_part}
use Rattle.sq_rules_trace.proofs.Truths.{second_part}

-- a side is read in its own worlds
pub side_read : (th : Theory) (side : Side) (left : Bool) → Member (sides_of side) left
    → is_read_on side (world_at th left) ≡ true
side_read th Left true i = refl
side_read th Left false (there i) = elim i [ ]
side_read th Right false i = refl
side_read th Right true (there i) = elim i [ ]
side_read th Both left i = refl

-- behind init, or the condition is false
behind_cases : (o : Option ℕ)
    → ((v : Ground → Bool)
    → IsTrueAt v (both (truth_of (is_position o)) (negation (truth_of (is_same_time o (Some 0)))))
    → false ≡ true)
    ⊎ ((k : ℕ) × (o ≡ Some (suc k)))
behind_cases None = inl (λ v h. h)
behind_cases (Some zero) = inl (λ v h. h)
behind_cases (Some (suc k)) = inr (k, refl)

long-map : {A B : Type 0} (f : A → B) (xs : List A) → length (map f xs) ≡ length xs
long-map f [] = refl
long-map f (x ∷ xs) = ap suc (long-map f xs)

module _ (s : SystemTree) (facts : IsSystem s) (m : Model) (M : IsTraceModel s m)
    (funs : List FunDecl) (axioms : List TermTree) (left : Bool) (a : Assignment) where
  abbrev th : Theory
  th = theory_at s m funs axioms

  abbrev w : World
  w = world_at th left

  abbrev vals : GroundMacro → Option ℕ → Ground
  vals = w.values

  abbrev Known : Ground → Type 0
  Known c = HasDerivation th (fact left c)

  abbrev KnownOf : TermTree → Type 0
  KnownOf F = Known (translate w a [] F)

  abbrev place : TsTree → Option ℕ
  place t = ts_value (times_of m) a [] t

  equal_known : (u u' : Ground) → u ≡ u' → Known (equal u u')
  equal_known u u' e =
      subst (λ z. Known (equal u z)) e (derive_outright th _ (FollowsBy.reflexive left u))

  alike_known : (u u' : Ground) → u ≡ u' → Known (equivalent u u')
  alike_known u u' e =
      subst (λ z. Known (equivalent u z)) e
      (valid th left [] (equivalent u u)
      (λ v h. joined v (implies u u) (implies u u) (implied v u u (λ x. x))
      (implied v u u (λ x. x))))

  true_known : (u : Ground) → u ≡ truth → Known u
  true_known u e = subst Known (sym e) (true_goal th left [])

  false_known : (u : Ground) → u ≡ falsity → Known (negation u)
  false_known u e =
      subst (λ z. Known (negation z)) (sym e)
      (valid th left [] (negation falsity) (λ v h. denied v falsity (λ x. x)))

  -- ---- at init, and where nothing happens

  at_first : (read : GroundMacro) → vals read (Some 0) ≡ field read at_init
  at_first read = (records_meet s m left facts M).0 read

  pub initial_known : (x : Macro) → KnownOf (initial x)
  initial_known Input = equal_known (vals (word Input) (Some 0)) empty (at_first (word Input))
  initial_known Output = equal_known (vals (word Output) (Some 0)) empty (at_first (word Output))
  initial_known Cond = true_known (vals (word Cond) (Some 0)) (at_first (word Cond))
  initial_known Exec = true_known (vals (word Exec) (Some 0)) (at_first (word Exec))
  initial_known Frame = equal_known (vals (word Frame) (Some 0)) empty (at_first (word Frame))

  nowhere : (x : Macro) (t : TsTree) → place t ≡ None
      → vals (word x) (place t) ≡ field (word x) at_undefined
  nowhere x t e = ap (vals (word x)) e

  undefined_known : (x : Macro) (t : TsTree) → place t ≡ None → KnownOf (undefined x t)
  undefined_known Input t e =
      equal_known (vals (word Input) (place t)) empty (nowhere Input t e)
  undefined_known Output t e =
      equal_known (vals (word Output) (place t)) empty (nowhere Output t e)
  undefined_known Cond t e = false_known (vals (word Cond) (place t)) (nowhere Cond t e)
  undefined_known Exec t e = false_known (vals (word Exec) (place t)) (nowhere Exec t e)
  undefined_known Frame t e =
      equal_known (vals (word Frame) (place t)) empty (nowhere Frame t e)

  -- it is known, or the timestamp happens
  pub undefined_cases : (x : Macro) (t : TsTree)
      → ((v : Ground → Bool) → IsTrueAt v (negation (truth_of (is_position (place t))))
      → false ≡ true)
      ⊎ KnownOf (undefined x t)
  undefined_cases x t = by_place (place t) refl
    where
      by_place : (o : Option ℕ) → place t ≡ o
          → ((v : Ground → Bool) → IsTrueAt v (negation (truth_of (is_position (place t))))
          → false ≡ true)
          ⊎ KnownOf (undefined x t)
      by_place None e = inr (undefined_known x t e)
      by_place (Some p) e =
          inl (λ v h. refuted v (truth_of (is_position (place t))) h
          (on v (is_position (place t)) (ap is_position e)))

  -- ---- behind init

  module _ (k : ℕ) (i : Inst) (stands : ElementAt m.list k i) where
    abbrev last : Record
    last = record_at s m left k

    abbrev output : Ground
    output = translate (world s m left) (own_indices i) [] (action_at s i.act).output

    abbrev condition : Ground
    condition = translate (world s m left) (own_indices i) [] (action_at s i.act).cond

    input_is : vals (word Input) (Some (suc k)) ≡ unary kind.attacker last.frame
    input_is = (records_meet s m left facts M).2 k i stands (word Input)

    pub output_is : vals (word Output) (Some (suc k)) ≡ output
    output_is = (records_meet s m left facts M).2 k i stands (word Output)

    pub cond_is : vals (word Cond) (Some (suc k)) ≡ condition
    cond_is = (records_meet s m left facts M).2 k i stands (word Cond)

    exec_is : vals (word Exec) (Some (suc k)) ≡ both last.exec condition
    exec_is = (records_meet s m left facts M).2 k i stands (word Exec)

    frame_is : vals (word Frame) (Some (suc k))
        ≡ pair last.frame
        (pair (of_bool (both last.exec condition))
        (conditional (both last.exec condition) output empty))
    frame_is = (records_meet s m left facts M).2 k i stands (word Frame)

    -- at the timestamp's position
    pub input_known : (o : Option ℕ) → o ≡ Some (suc k)
        → Known (equal (vals (word Input) o) (unary kind.attacker (vals (word Frame) (before o))))
    input_known o e =
        subst
        (λ q. Known (equal (vals (word Input) q) (unary kind.attacker (vals (word Frame)
        (before q)))))
        (sym e)
        (equal_known (vals (word Input) (Some (suc k))) (unary kind.attacker last.frame) input_is)

    pub exec_known : (o : Option ℕ) → o ≡ Some (suc k)
        → Known (equivalent (vals (word Exec) o)
        (both (vals (word Exec) (before o)) (vals (word Cond) o)))
    exec_known o e =
        subst
        (λ q. Known (equivalent (vals (word Exec) q)
        (both (vals (word Exec) (before q)) (vals (word Cond) q))))
        (sym e)
        (alike_known (vals (word Exec) (Some (suc k)))
        (both last.exec (vals (word Cond) (Some (suc k))))
        (exec_is ∙ ap (both last.exec) (sym cond_is)))

    pub frame_known : (o : Option ℕ) → o ≡ Some (suc k)
        → Known (equal (vals (word Frame) o)
        (pair (vals (word Frame) (before o))
        (pair (of_bool (vals (word Exec) o))
        (conditional (vals (word Exec) o) (vals (word Output) o) empty))))
    frame_known o e =
        subst
        (λ q. Known (equal (vals (word Frame) q)
        (pair (vals (word Frame) (before q))
        (pair (of_bool (vals (word Exec) q))
        (conditional (vals (word Exec) q) (vals (word Output) q) empty)))))
        (sym e)
        (equal_known (vals (word Frame) (Some (suc k)))
        (pair last.frame
        (pair (of_bool (vals (word Exec) (Some (suc k))))
        (conditional (vals (word Exec) (Some (suc k))) (vals (word Output) (Some (suc k))) empty)))
        (frame_is
        ∙ sym (λ j. pair last.frame
        (pair (of_bool (exec_is j)) (conditional (exec_is j) (output_is j) empty)))))

  -- ---- by cases of what unfolds

  -- where the timestamp has a position, it is one of the trace
  abbrev pub IsInTrace : TsTree → Type 0
  IsInTrace t = (p : ℕ) → place t ≡ Some p → p < suc (length m.list)

  abbrev Untrue : TermTree → Type 0
  Untrue c = (v : Ground → Bool) → IsTrueAt v (translate w a [] c) → false ≡ true

  behind_init : (t : TsTree) (F : TermTree) → IsInTrace t
      → ((k : ℕ) (i : Inst) → ElementAt m.list k i → place t ≡ Some (suc k) → KnownOf F)
      → Untrue (is_behind_init t) ⊎ KnownOf F
  behind_init t F bound f = by_case (behind_cases (place t))
    where
      by_case : Untrue (is_behind_init t) ⊎ ((k : ℕ) × (place t ≡ Some (suc k)))
          → Untrue (is_behind_init t) ⊎ KnownOf F
      by_case (inl h) = inl h
      by_case (inr r) =
          let b : suc r.0 < suc (length m.list) = bound (suc r.0) r.1 in
          let q : (i : Inst) × ElementAt m.list r.0 i = element_there m.list r.0 (omega arith) in
          inr (f r.0 q.0 q.1 r.1)

  module _ (env : EnvTree) (sorted : is_well_sorted env s ≡ true) (side : Side)
      (read : is_read_on side w ≡ true) where
    -- at an action: it is known, or the instance does not happen
    at_action : (n : ℕ) (is : List Idx) (F : TermTree)
        → ((k : ℕ) → place (action n is) ≡ Some (suc k) → IsAt m.list n (idx_values a [] is) k
        → KnownOf F)
        → Untrue (happens (action n is)) ⊎ KnownOf F
    at_action n is F f = by_place (place (action n is)) refl
      where
        by_place : (o : Option ℕ) → place (action n is) ≡ o
            → Untrue (happens (action n is)) ⊎ KnownOf F
        by_place None e =
            inl (λ v h.
            let z : is_position (place (action n is)) ≡ true =
            off v (is_position (place (action n is))) h in
            sym (ap is_position e) ∙ z)
        by_place (Some p) e =
            let r : (k : ℕ) × (p ≡ suc k) × IsAt m.list n (idx_values a [] is) k =
            placed-at m.list n (idx_values a [] is) p e in
            inr (f r.0 (e ∙ ap Some r.1) r.2)

    module _ (n : ℕ) (is : List Idx) (k : ℕ) (closed : indices_closed 0 is ≡ true)
        (x : IsAt m.list n (idx_values a [] is) k) where
      as_many : length is ≡ (action_at s n).arity
      as_many =
          sym (long-map (idx_value a []) is)
          ∙ (ap length x.indices
          ∙ ((below s m M k x.instance x.stands).1
          ∙ ap (λ q. (action_at s q).arity) (sym x.action)))

      there_is : n < length s.actions
      there_is = subst (λ q. q < length s.actions) (sym x.action)
          (below s m M k x.instance x.stands).0

      output_meaning : translate w a [] (body_at side is (action_at s n).output)
          ≡ output k x.instance x.stands
      output_meaning =
          body_meaning env s w a side is (action_at s n).arity Message (action_at s n).output read
          closed as_many (body_sorts env s n sorted there_is).1
          ∙ (λ j. translate w (record { variables = map Number (x.indices j); schemas = [] }) []
          (action_at s (x.action j)).output)

      cond_meaning : translate w a [] (body_at side is (action_at s n).cond)
          ≡ condition k x.instance x.stands
      cond_meaning =
          body_meaning env s w a side is (action_at s n).arity Boolean (action_at s n).cond read
          closed as_many (body_sorts env s n sorted there_is).0
          ∙ (λ j. translate w (record { variables = map Number (x.indices j); schemas = [] }) []
          (action_at s (x.action j)).cond)

    pub unfolds_known : (x : Macro) (t : TsTree) (c u : TermTree) → ts_closed 0 t ≡ true
        → IsInTrace t → Unfolds s side x t c u → Untrue c ⊎ KnownOf (has_value x t u)
    unfolds_known _ _ _ _ closed bound (Unfolds.output n is) =
        at_action n is (has_value Output (action n is) (body_at side is (action_at s n).output))
        (λ k e x.
        equal_known (vals (word Output) (place (action n is)))
        (translate w a [] (body_at side is (action_at s n).output))
        (ap (vals (word Output)) e
        ∙ (output_is k x.instance x.stands ∙ sym (output_meaning n is k closed x))))
    unfolds_known _ _ _ _ closed bound (Unfolds.cond n is) =
        at_action n is (has_value Cond (action n is) (body_at side is (action_at s n).cond))
        (λ k e x.
        alike_known (vals (word Cond) (place (action n is)))
        (translate w a [] (body_at side is (action_at s n).cond))
        (ap (vals (word Cond)) e
        ∙ (cond_is k x.instance x.stands ∙ sym (cond_meaning n is k closed x))))
    unfolds_known _ _ c u closed bound (Unfolds.input t d) =
        behind_init t (has_value Input t u) bound (λ k i el e. input_known k i el (place t) e)
    unfolds_known _ _ c u closed bound (Unfolds.exec t d) =
        behind_init t (has_value Exec t u) bound (λ k i el e. exec_known k i el (place t) e)
    unfolds_known _ _ c u closed bound (Unfolds.frame t d) =
        behind_init t (has_value Frame t u) bound (λ k i el e. frame_known k i el (place t) e)
