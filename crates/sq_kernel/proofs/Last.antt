-- A step on a stack whose first sequent is its last item.
use Rattle.std.proofs.Common.{◌≡◌, ℕ, sym, ap, ◌∙◌, subst, List, [], ◌∷◌, ◌++◌, Result, Ok}
use Rattle.std.proofs.Common.{Err, MatchResult, reverse}
use Rattle.sq_base.specs.Gives.{Gives}
use Rattle.sq_system.specs.declared.sequent.Sequent.{Sequent}
use Rattle.sq_system.specs.Sequents.{sequent_tree}
use Rattle.sq_system.specs.Statements.{EnvTree}
use Rattle.sq_system.specs.declared.fault.RuleFault.{RuleFault}
use Rattle.sq_system.specs.declared.fault.RuleFault.TheVariants.{NoMemory}
use Rattle.sq_step.specs.declared.step.Step.{Step}
use Rattle.sq_sequent.specs.Logic.{sequent_trees}
use Rattle.sq_kernel.specs.declared.fault.StepFault.{StepFault}
use Rattle.sq_kernel.specs.declared.fault.StepFault.TheVariants.{Rule}
use Rattle.sq_kernel.specs.Closing.{site}
use Rattle.sq_kernel.specs.Verdicts.{calculus, in_front, advanced}
use Rattle.sq_kernel.proofs.Stacks.{trees-append, reverse-push}

-- what putting the premises in front of the other sequents leaves
abbrev Puts : {A : Type 0} → List Sequent → List Sequent → Result (List Sequent) RuleFault
    → Result A StepFault → Type 0
Puts old new p r = MatchResult p
    (λ ps. MatchResult r (λ u. new ≡ ps ++ old) (λ e. e ≡ Rule NoMemory))
    (λ fault. r ≡ Err (Rule fault))

module _ (step : Step) (env : EnvTree) (goal : ℕ) where
  put_first : {A : Type 0} (x : Sequent) (old new : List Sequent)
      (p : Result (List Sequent) RuleFault) (r : Result A StepFault)
      → Gives NoMemory sequent_trees p (calculus (site env goal (sequent_tree x)) step)
      → Puts old new p r
      → Gives (Rule NoMemory) (λ u. sequent_trees new) r
      (advanced env goal step (sequent_trees (x ∷ old)))
  put_first x old new (Ok ps) (Ok u) g m = ap (λ q. in_front q (sequent_trees old)) g ∙ ap Ok
      (sym (ap sequent_trees m ∙ trees-append ps old))
  put_first x old new (Ok ps) (Err e) g m = λ n. absurd (n m)
  put_first x old new (Err fault) r g m =
      subst (λ q. Gives (Rule NoMemory) (λ u. sequent_trees new) q
      (advanced env goal step (sequent_trees (x ∷ old)))) (sym m)
      (λ n. ap (λ q. in_front q (sequent_trees old)) (g (λ same. n (ap Rule same))))

  pub put_last_first : {A : Type 0} (x : Sequent) (stack old new : List Sequent)
      (p : Result (List Sequent) RuleFault) (r : Result A StepFault)
      → stack ≡ old ++ x ∷ [] → Gives NoMemory sequent_trees p
      (calculus (site env goal (sequent_tree x)) step) → Puts (reverse old) (reverse new) p r
      → Gives (Rule NoMemory) (λ u. sequent_trees (reverse new)) r
      (advanced env goal step (sequent_trees (reverse stack)))
  put_last_first x stack old new p r e g m =
      subst (λ s. Gives (Rule NoMemory) (λ u. sequent_trees (reverse new)) r
      (advanced env goal step (sequent_trees s))) (sym (ap reverse e ∙ reverse-push old x))
      (put_first x (reverse old) (reverse new) p r g m)
