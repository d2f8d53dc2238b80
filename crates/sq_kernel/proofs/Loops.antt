-- The loops over steps and over names.
use Rattle.std.proofs.Common.{◌≡◌, ◌≢◌, ℕ, suc, ◌+◌, refl, sym, ap, ◌∙◌}
use Rattle.std.proofs.Common.{List, [], ◌∷◌, ◌++◌, reverse, append_assoc}
use Rattle.std.proofs.Common.{Result, Ok, Err, arith}
use Rattle.sq_system.specs.declared.fault.RuleFault.TheVariants as rule
use Rattle.sq_system.specs.declared.sequent.OpenGoal.{OpenGoal}
use Rattle.sq_system.specs.declared.sequent.Sequent.{Sequent}
use Rattle.sq_system.specs.Sequents.{SequentTree, sequent_tree}
use Rattle.sq_system.specs.Statements.{EnvTree}
use Rattle.sq_step.specs.declared.step.Step.{Step}
use Rattle.sq_kernel.specs.declared.extending.ExtendFault.{ExtendFault}
use Rattle.sq_kernel.specs.declared.extending.ExtendFault.TheVariants as fault
use Rattle.sq_kernel.specs.declared.extending.GoalNames.{GoalNames}
use Rattle.sq_kernel.specs.declared.fault.StepFault.{StepFault}
use Rattle.sq_kernel.specs.declared.fault.StepFault.TheVariants.{Extra, Rule}
use Rattle.sq_kernel.specs.Verdicts.{advanced}
use Rattle.sq_sequent.specs.Logic.{sequent_trees}
use Rattle.sq_kernel.specs.Goals.{GoalTree, goal_tree, goal_trees}
use Rattle.sq_kernel.proofs.NamedGoals.{goal_trees-append}
use Rattle.sq_kernel.proofs.Stacks.{reverse-push}
use Rattle.sq_kernel.specs.Extending.{told, go_on, left_from, named, checked, both, each_named}

-- ---- steps

-- what is told is want of memory only where the step answers it
pub told-memory : (n : ℕ) (reason : StepFault) → told n reason ≢ fault.NoMemory
    → (reason ≢ Rule rule.NoMemory) × (told n reason ≡ fault.Step n reason)
told-memory n Extra e = (λ s. absurd (cc (s)), refl)
told-memory n (Rule rule.Shape) e = (λ s. absurd (cc (s)), refl)
told-memory n (Rule rule.HasSchema) e = (λ s. absurd (cc (s)), refl)
told-memory n (Rule (rule.BadOccurrence o)) e = (λ s. absurd (cc (s)), refl)
told-memory n (Rule rule.TooLarge) e = (λ s. absurd (cc (s)), refl)
told-memory n (Rule rule.NoMemory) e = absurd (e refl)

module _ (env : EnvTree) (g : ℕ) where
  -- a step that is refused ends the run
  pub stopped : (o : Result (List SequentTree) ExtendFault) (n : ℕ) (step : Step)
      (left rest : List Step) (stack : List SequentTree) (reason : StepFault)
      → o ≡ left_from env g n left stack → left ≡ step ∷ rest
      → (reason ≢ Rule rule.NoMemory → advanced env g step stack ≡ Err reason)
      → told (n + 1) reason ≢ fault.NoMemory → o ≡ Err (told (n + 1) reason)
  stopped o n step left rest stack reason e l a m =
      let number : suc n ≡ n + 1 = omega arith in
      let t = told-memory (n + 1) reason m in
      e
      ∙ (ap (λ s. left_from env g n s stack) l
      ∙ (ap (λ q. go_on (suc n) q (left_from env g (suc n) rest)) (a t.0)
      ∙ (ap (λ k. Err (fault.Step k reason)) number ∙ ap Err (sym t.1))))

-- ---- names

-- the goals so far, and those that come behind
abbrev pub behind : List GoalTree → Result (List GoalTree) ExtendFault
    → Result (List GoalTree) ExtendFault
behind done (Ok goals) = Ok (done ++ goals)
behind done (Err reason) = Err reason

behind-one : (done : List GoalTree) (g : GoalTree) (r : Result (List GoalTree) ExtendFault)
    → behind done (both (Ok g) r) ≡ behind (done ++ g ∷ []) r
behind-one done g (Ok goals) = ap Ok (sym (append_assoc done (g ∷ []) goals))
behind-one done g (Err reason) = refl

module _ (schemas : List (List ℕ)) (o : Result (List GoalTree) ExtendFault) (goals : List OpenGoal)
    (stack rest : List Sequent) (x : Sequent) (names : List GoalNames)
    (known : o ≡ behind (goal_trees goals)
    (each_named schemas (sequent_trees (reverse stack)) names))
    (top : stack ≡ rest ++ x ∷ []) where
  on_top : o ≡ behind (goal_trees goals)
      (each_named schemas (sequent_tree x ∷ sequent_trees (reverse rest)) names)
  on_top =
      known
      ∙ ap (λ ss. behind (goal_trees goals) (each_named schemas (sequent_trees ss) names))
      (ap reverse top ∙ reverse-push rest x)

  -- a sequent has got its names
  pub named_next : (slice : List (List ℕ)) (n : GoalNames) (further : List GoalNames) (g : OpenGoal)
      (goals' : List OpenGoal) → names ≡ n ∷ further → slice ≡ schemas
      → checked (named slice (sequent_tree x) n) ≡ Ok (goal_tree g) → goals' ≡ goals ++ g ∷ []
      → o ≡ behind (goal_trees goals')
      (each_named schemas (sequent_trees (reverse rest)) further)
  named_next slice n further g goals' l same c e =
      on_top
      ∙ (ap (λ ns. behind (goal_trees goals)
      (each_named schemas (sequent_tree x ∷ sequent_trees (reverse rest)) ns)) l
      ∙ (ap (λ q. behind (goal_trees goals)
      (both q (each_named schemas (sequent_trees (reverse rest)) further)))
      (ap (λ ss. checked (named ss (sequent_tree x) n)) (sym same) ∙ c)
      ∙ (behind-one (goal_trees goals) (goal_tree g)
      (each_named schemas (sequent_trees (reverse rest)) further)
      ∙ ap (λ gs. behind gs (each_named schemas (sequent_trees (reverse rest)) further))
      (sym (ap goal_trees e ∙ goal_trees-append goals (g ∷ []))))))
