-- What the exact answer of a step says in the words of its row of time.
use Rattle.std.proofs.Common.{◌≡◌, ◌⊎◌, inl, inr, refl, sym, ap, ◌∙◌, List, Option}
use Rattle.std.proofs.Common.{Some, None, Result, Ok, Err, IfOk, Bool, true, false}
use Rattle.std.specs.Prelude.{if◌then◌else◌}
use Rattle.sq_base.specs.Gives.{Gives}
use Rattle.sq_term.specs.Lists.{Each}
use Rattle.sq_system.specs.declared.sequent.Sequent.{Sequent}
use Rattle.sq_system.specs.Sequents.{SequentTree}
use Rattle.sq_system.specs.Sizes.{all_fit}
use Rattle.sq_system.specs.WellFormed.{IsEnvironment}
use Rattle.sq_system.specs.declared.fault.RuleFault.{RuleFault}
use Rattle.sq_system.specs.declared.fault.RuleFault.TheVariants as fault
use Rattle.sq_step.specs.declared.step.Step.{Step}
use Rattle.sq_sequent.specs.Laws.{IsWellFormed}
use Rattle.sq_sequent.specs.Logic.{sequent_trees, within_limits, judged}
use Rattle.sq_sequent.specs.Site.{Site}
use Rattle.sq_rules_logic.specs.Soundness.{PremisesSuffice}
use Rattle.sq_rules_trace.specs.Answers.{TimeAnswers}
use Rattle.sq_rules_trace.specs.Rows.{TimeRow}
use Rattle.sq_rules_trace.specs.Time.{time_row, time_premises}
use Rattle.sq_rules_trace.proofs.Agree.{rows_agree}
use Rattle.sq_rules_trace.proofs.Formed.{keep_formed}
use Rattle.sq_rules_trace.proofs.RowSound.{row_sound}

-- the row's premises, where they are within the limits
judged_ok : (o : Option (List SequentTree)) (ps : List SequentTree) → judged o ≡ Ok ps
    → (o ≡ Some ps) × (all_fit ps ≡ true)
unfolding within_limits
judged_ok None ps e = absurd (cc)
judged_ok (Some qs) ps e = go (all_fit qs) refl e
  where
    go : (b : Bool) → all_fit qs ≡ b → (if b then Ok qs else Err fault.TooLarge) ≡ Ok ps
        → (Some qs ≡ Some ps) × (all_fit ps ≡ true)
    go true f k = let z : qs ≡ ps = cc in (ap Some z, ap all_fit (sym z) ∙ f)
    go false f k = absurd (cc)

judged_err : (o : Option (List SequentTree)) (e : RuleFault) → judged o ≡ Err e
    → ((o ≡ None) × (e ≡ fault.Shape))
    ⊎ ((ps : List SequentTree) × (o ≡ Some ps) × (all_fit ps ≡ false) × (e ≡ fault.TooLarge))
unfolding within_limits
judged_err None e k = inl (refl, cc)
judged_err (Some qs) e k = go (all_fit qs) refl k
  where
    go : (b : Bool) → all_fit qs ≡ b → (if b then Ok qs else Err fault.TooLarge) ≡ Err e
        → ((Some qs ≡ None) × (e ≡ fault.Shape))
        ⊎ ((ps : List SequentTree) × (Some qs ≡ Some ps) × (all_fit ps ≡ false) ×
        (e ≡ fault.TooLarge))
    go true f j = absurd (cc)
    go false f j = inr (qs, refl, f, cc)

module _ (at : Site) (step : Step) where
  replaces : (ps : List SequentTree) → time_premises at step ≡ Ok ps
      → TimeRow at step ps × (all_fit ps ≡ true)
  unfolding time_premises
  replaces ps e =
      let k = judged_ok (time_row at step) ps e in ((rows_agree at step ps).0 k.0, k.1)

  refused : (e : RuleFault) → time_premises at step ≡ Err e
      → ((time_row at step ≡ None) × (e ≡ fault.Shape))
      ⊎ ((ps : List SequentTree) × (time_row at step ≡ Some ps) × (all_fit ps ≡ false) ×
      (e ≡ fault.TooLarge))
  unfolding time_premises
  refused e k = judged_err (time_row at step) e k

  no_row : time_row at step ≡ None → (ps : List SequentTree) → TimeRow at step ps → ⊥
  no_row e ps r = let z : None ≡ Some ps = sym e ∙ (rows_agree at step ps).1 r in absurd (cc)

  pub answers : (r : Result (List Sequent) RuleFault)
      → Gives fault.NoMemory sequent_trees r (time_premises at step) → TimeAnswers at step r
  answers (Ok ps) e = replaces (sequent_trees ps) e
  answers (Err fault.Shape) e =
      elim (refused fault.Shape (e (λ z. cc))) [
        | inl p ↦ no_row p.0
        | inr q ↦ absurd (let z = q.3 in cc)
      ]
  answers (Err fault.HasSchema) e =
      elim (refused fault.HasSchema (e (λ z. cc))) [
        | inl p ↦ absurd (let z = p.1 in cc)
        | inr q ↦ absurd (let z = q.3 in cc)
      ]
  answers (Err (fault.BadOccurrence o)) e =
      elim (refused (fault.BadOccurrence o) (e (λ z. cc))) [
        | inl p ↦ absurd (let z = p.1 in cc)
        | inr q ↦ absurd (let z = q.3 in cc)
      ]
  answers (Err fault.TooLarge) e =
      elim (refused fault.TooLarge (e (λ z. cc))) [
        | inl p ↦ absurd (let z = p.1 in cc)
        | inr q ↦ (q.0, (rows_agree at step q.0).0 q.1, q.2)
      ]
  answers (Err fault.NoMemory) e = tt

  module _ (kept : IsEnvironment at.env) where
    pub premises_formed : (r : Result (List Sequent) RuleFault)
        → Gives fault.NoMemory sequent_trees r (time_premises at step)
        → IfOk r (λ ps. IsWellFormed at at.sequent → Each (IsWellFormed at) (sequent_trees ps))
    premises_formed (Ok ps) e = λ formed.
        let r = replaces (sequent_trees ps) e in
        keep_formed at step (sequent_trees ps) kept formed r.0 r.1
    premises_formed (Err f) e = tt

    pub premises_suffice : (r : Result (List Sequent) RuleFault)
        → Gives fault.NoMemory sequent_trees r (time_premises at step)
        → IfOk r (λ ps. PremisesSuffice at (sequent_trees ps))
    premises_suffice (Ok ps) e =
        row_sound at step (sequent_trees ps) kept (replaces (sequent_trees ps) e).0
    premises_suffice (Err f) e = tt
