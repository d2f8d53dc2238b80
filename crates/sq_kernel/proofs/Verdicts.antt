-- The verdict on a list of steps, step by step.
use Rattle.std.proofs.Common.{◌≡◌, ◌≢◌, ◌↔◌, ◌<◌, ℕ, suc, ◌+◌, length, sym, ap, ◌∙◌}
use Rattle.std.proofs.Common.{List, ◌∷◌, Option, Some, None, Result, Ok, Err, IfOk}
use Rattle.std.proofs.Common.{arith}
use Rattle.std.specs.Prelude.{option_map}
use Rattle.sq_base.specs.declared.memory.NoMemory.{NoMemory}
use Rattle.sq_ground.specs.Goals.{HoldsEverywhere}
use Rattle.sq_system.specs.Sequents.{SequentTree}
use Rattle.sq_system.specs.Statements.{EnvTree}
use Rattle.sq_system.specs.WellFormed.{IsEnvironment}
use Rattle.sq_system.specs.declared.fault.RuleFault.TheVariants as rule
use Rattle.sq_step.specs.declared.step.Step.{Step}
use Rattle.sq_rules_logic.specs.Soundness.{EarlierHold}
use Rattle.sq_kernel.specs.declared.fault.StepFault.{StepFault}
use Rattle.sq_kernel.specs.declared.fault.StepFault.TheVariants.{Rule}
use Rattle.sq_kernel.specs.declared.fault.Kind.{Kind}
use Rattle.sq_kernel.specs.declared.fault.Verdict.{Verdict}
use Rattle.sq_kernel.specs.declared.fault.Verdict.TheVariants.{Closed, Rejected}
use Rattle.sq_kernel.specs.Closing.{ClosesGoal}
use Rattle.sq_kernel.specs.Verdicts.{advanced, after, kind_of, verdict_from, verdict_of}
use Rattle.sq_kernel.proofs.Sound.{closed_exactly, goal_holds}

not_memory : (f : StepFault) (k : Kind) → kind_of f ≡ Some k → f ≢ Rule rule.NoMemory
not_memory f k e same =
    let none : None ≡ Some k = sym (ap kind_of same) ∙ e in absurd (cc)

module _ (env : EnvTree) (g : ℕ) where
  -- a step that is refused ends the run
  pub refused : (o : Option Verdict) (n : ℕ) (step : Step) (left rest : List Step)
      (stack : List SequentTree) (fault : StepFault) (k : Kind)
      → o ≡ verdict_from env g n left stack → left ≡ step ∷ rest
      → (fault ≢ Rule rule.NoMemory → advanced env g step stack ≡ Err fault)
      → kind_of fault ≡ Some k → o ≡ Some (Rejected (n + 1) k)
  refused o n step left rest stack fault k e l a r =
      let number : suc n ≡ n + 1 = omega arith in
      e
      ∙ (ap (λ s. verdict_from env g n s stack) l
      ∙ (ap (λ q. after n q (verdict_from env g (suc n) rest)) (a (not_memory fault k r))
      ∙ (ap (option_map (Rejected (suc n))) r ∙ ap (λ m. Some (Rejected m k)) number)))

  -- a step that has premises goes on
  pub went_on : (o : Option Verdict) (n : ℕ) (step : Step) (left rest : List Step)
      (stack stack' : List SequentTree)
      → o ≡ verdict_from env g n left stack → left ≡ step ∷ rest
      → advanced env g step stack ≡ Ok stack' → o ≡ verdict_from env g (n + 1) rest stack'
  went_on o n step left rest stack stack' e l a =
      let number : suc n ≡ n + 1 = omega arith in
      e ∙ ap (λ s. verdict_from env g n s stack) l
      ∙ ap (λ q. after n q (verdict_from env g (suc n) rest)) a
      ∙ ap (λ m. verdict_from env g m rest stack') number

  some_closed : (v : Verdict) (o : Option Verdict) → o ≡ Some v → (v ≡ Closed) ↔ (o ≡ Some Closed)
  some_closed v o e = (λ c. e ∙ ap Some c, λ c. let z : Some v ≡ Some Closed = sym e ∙ c in cc)

  pub closed_of : (steps : List Step) (r : Result Verdict NoMemory)
      → IfOk r (λ v. verdict_of env g steps ≡ Some v)
      → IfOk r (λ v. (v ≡ Closed) ↔ ClosesGoal env g steps)
  closed_of steps (Ok v) e =
      let p = some_closed v (verdict_of env g steps) e in
      let q = closed_exactly env g steps in
      (λ c. q.0 (p.0 c), λ c. p.1 (q.1 c))
  closed_of steps (Err m) e = tt

  pub sound_of : IsEnvironment env → g < length env.stmts → (steps : List Step)
      (r : Result Verdict NoMemory) → IfOk r (λ v. verdict_of env g steps ≡ Some v)
      → IfOk r (λ v. v ≡ Closed → EarlierHold env g → HoldsEverywhere env g)
  sound_of kept l steps (Ok v) e = λ is. goal_holds env kept g l steps (e ∙ ap Some is)
  sound_of kept l steps (Err m) e = tt
