-- The rows of time are sound: where each premise holds, the sequent does.
use Rattle.std.proofs.Common.{◌≡◌, ◌⊎◌, inl, inr, subst, [], ◌∷◌, ◌++◌, List, map, Bool, true}
use Rattle.std.proofs.Common.{false}
use Rattle.sq_term.specs.declared.model.Model.{Model}
use Rattle.sq_term.specs.declared.term.Side.{Side}
use Rattle.sq_term.specs.Ground.{Ground}
use Rattle.sq_term.specs.Lists.{Member, here, there, Each}
use Rattle.sq_term.specs.Models.{IsTraceModel}
use Rattle.sq_term.specs.Syntax.{TermTree, happens}
use Rattle.sq_term.specs.Formulas.{negation}
use Rattle.sq_term.specs.Systems.{SystemTree}
use Rattle.sq_term.specs.Translate.{Assignment, translate}
use Rattle.sq_term.proofs.Members.{each_none}
use Rattle.sq_system.specs.Facts.{IsSystem}
use Rattle.sq_system.specs.Sequents.{SequentTree, trace, local, equiv, vars_of, body_of}
use Rattle.sq_system.specs.Usable.{usable_axioms}
use Rattle.sq_system.specs.WellFormed.{is_well_formed, IsEnvironment}
use Rattle.sq_ground.specs.Goals.{theory_of}
use Rattle.sq_ground.specs.Holding.{sides_of, IsAssignment, claim_of, HoldsAt}
use Rattle.sq_ground.specs.Theories.{Theory, world_at}
use Rattle.sq_ground.specs.Truth.{IsTrueAt}
use Rattle.sq_ground.proofs.Propositional.{claim, by_one, by_two}
use Rattle.sq_step.specs.declared.step.Step.{Step}
use Rattle.sq_sequent.specs.Premises.{asking, assuming}
use Rattle.sq_sequent.specs.Rows.{IsOn}
use Rattle.sq_sequent.specs.Site.{Site}
use Rattle.sq_rules_logic.proofs.FactSound.{Known, known_sound}
use Rattle.sq_rules_logic.proofs.Holding.{assume_sound, each-map_push}
use Rattle.sq_rules_trace.specs.Laws.{TimeRowSound}
use Rattle.sq_rules_trace.specs.Rows.{system_at, TimeRow}
use Rattle.sq_rules_trace.specs.Unfolding.{has_value, initial, undefined}
use Rattle.sq_rules_trace.proofs.FactsTrue.{in_trace, facts_true}
use Rattle.sq_rules_trace.proofs.InductionSound.{tind_sound}
use Rattle.sq_rules_trace.proofs.MacroValues.{side_read, initial_known, undefined_cases}
use Rattle.sq_rules_trace.proofs.MacroValues.{unfolds_known}
use Rattle.sq_rules_trace.proofs.Sorted.{goal_closed, time_closed}
use Rattle.sq_rules_trace.proofs.Systems.{goal_system, goal_sorted}

module _ (th : Theory) where
  -- On each side and under each assignment the formula is untrue under every valuation, or the fact
  -- is known: where the formula follows, the fact may be a hypothesis.
  unfold_sound : (s : SequentTree) (side : Side) (C F : TermTree) → IsOn (body_of s) side
      → ((left : Bool) → Member (sides_of side) left → (a : Assignment)
      → IsAssignment th (vars_of s) a
      → ((v : Ground → Bool) → IsTrueAt v (translate (world_at th left) a [] C) → false ≡ true)
      ⊎ Known th left a F)
      → HoldsAt th (asking s C) → HoldsAt th (assuming s F) → HoldsAt th s
  unfolding asking assuming
  unfold_sound (local own vars H g) side C F e k p q = λ a f left m.
      elim (k left (subst (λ y. Member (sides_of y) left) e m) a f) [
        | inl untrue ↦
            by_one th left (claim_of (world_at th left) a H C) (claim_of (world_at th left) a H g)
            (p a f left m) (λ v x h. let y : false ≡ true = untrue v (x h) in cc)
        | inr known ↦
            by_two th left (claim [] (translate (world_at th left) a [] F))
            (claim_of (world_at th left) a (H ++ F ∷ []) g) (claim_of (world_at th left) a H g)
            known (q a f left m)
            (λ v x y h.
            y (each-map_push (translate (world_at th left) a []) H F (IsTrueAt v) h
            (x (each_none (IsTrueAt v)))))
      ]
  unfold_sound (trace vars H g) side C F e k p q = absurd e
  unfold_sound (equiv vars H known items) side C F e k p q = absurd e

module _ (at : Site) (kept : IsEnvironment at.env)
    (formed : is_well_formed at.env at.goal at.sequent ≡ true) (m : Model)
    (M : IsTraceModel (system_at at) m) where
  abbrev th : Theory
  th = theory_of at.env at.goal m

  abbrev s : SequentTree
  s = at.sequent

  abbrev system : SystemTree
  system = system_at at

  facts : IsSystem system
  facts = goal_system at.env at.goal kept

  pub suffice : (step : Step) (ps : List SequentTree) → TimeRow at step ps → Each (HoldsAt th) ps
      → HoldsAt th s
  suffice _ _ (TimeRow.fact step F known) p =
      assume_sound th s F
      (λ left a f v hyps. facts_true at step F m facts M known left a f v) (p _ here)
  suffice _ _ (TimeRow.tind v g asks sort free) p =
      tind_sound th s v g asks sort free (goal_closed at g formed asks) (p _ here)
  suffice _ _ (TimeRow.x_init r x side on e) p =
      known_sound th s side (initial r) on
      (λ left i a f.
      initial_known system facts m M at.env.funs (usable_axioms at.env at.goal) left a r)
      (p _ here)
  suffice _ _ (TimeRow.x r x side t c u on e unfolds) p =
      unfold_sound th s side c (has_value r t u) on
      (λ left i a f.
      unfolds_known system facts m M at.env.funs (usable_axioms at.env at.goal) left a at.env
      (goal_sorted at.env at.goal kept.well_formed) side (side_read th side left i) r t c u
      (time_closed at x t e) (in_trace at m a f x t e) unfolds)
      (p _ here) (p _ (there here))
  suffice _ _ (TimeRow.xu r x side t on e) p =
      unfold_sound th s side (negation (happens t)) (undefined r t) on
      (λ left i a f.
      undefined_cases system facts m M at.env.funs (usable_axioms at.env at.goal) left a r t)
      (p _ here) (p _ (there here))

pub row_sound : TimeRowSound
row_sound at step ps kept row formed m M earlier holds =
    suffice at kept formed m M step ps row holds
