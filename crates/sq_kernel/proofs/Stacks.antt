-- Steps on a stack, and on one whose first sequent is its last item.
use Rattle.std.proofs.Common.{◌≡◌, ◌≢◌, ℕ, refl, sym, ap, ◌∙◌, List, [], ◌∷◌, ◌++◌}
use Rattle.std.proofs.Common.{append_assoc, reverse, Result, Ok, Err}
use Rattle.std.proofs.lemmas.List.{reverse-append}
use Rattle.sq_system.specs.declared.sequent.Sequent.{Sequent}
use Rattle.sq_system.specs.Sequents.{SequentTree, sequent_tree}
use Rattle.sq_system.specs.Statements.{EnvTree}
use Rattle.sq_system.specs.declared.fault.RuleFault.{RuleFault}
use Rattle.sq_system.specs.declared.fault.RuleFault.TheVariants.{NoMemory}
use Rattle.sq_step.specs.declared.step.Step.{Step}
use Rattle.sq_sequent.specs.Logic.{sequent_trees}
use Rattle.sq_kernel.specs.declared.fault.StepFault.TheVariants.{Rule}
use Rattle.sq_kernel.specs.Closing.{site}
use Rattle.sq_kernel.specs.Verdicts.{calculus, in_front, advanced}

pub trees-append : (xs ys : List Sequent)
    → sequent_trees (xs ++ ys) ≡ sequent_trees xs ++ sequent_trees ys
trees-append [] ys = refl
trees-append (x ∷ xs) ys = ap (λ t. sequent_tree x ∷ t) (trees-append xs ys)

pub reverse-push : {A : Type 0} (xs : List A) (x : A) → reverse (xs ++ x ∷ []) ≡ x ∷ reverse xs
reverse-push xs x = reverse-append xs (x ∷ [])

-- a premise moves from the end of the premises to the end of the stack
pub moved : {A : Type 0} (stack stack' premises premises' : List A) (p : A)
    → premises ≡ premises' ++ p ∷ [] → stack' ≡ stack ++ p ∷ []
    → premises' ++ reverse stack' ≡ premises ++ reverse stack
moved stack stack' premises premises' p e f = rw (e, f, reverse-push stack p)
    (sym (append_assoc premises' (p ∷ []) (reverse stack)))

module _ (step : Step) (env : EnvTree) (goal : ℕ) where
  pub advanced_first : (x : Sequent) (rest stack : List Sequent)
      (r : Result (List SequentTree) RuleFault)
      → stack ≡ x ∷ rest → calculus (site env goal (sequent_tree x)) step ≡ r
      → advanced env goal step (sequent_trees stack) ≡ in_front r (sequent_trees rest)
  advanced_first x rest stack r e f = ap (λ s. advanced env goal step (sequent_trees s)) e ∙ ap
      (λ r. in_front r (sequent_trees rest)) f

  -- premises in front of the rest
  pub gives_premises : (x : Sequent) (rest stack stack' premises : List Sequent) → stack ≡ x ∷ rest
      → stack' ≡ premises ++ rest
      → calculus (site env goal (sequent_tree x)) step ≡ Ok (sequent_trees premises)
      → advanced env goal step (sequent_trees stack) ≡ Ok (sequent_trees stack')
  gives_premises x rest stack stack' premises e f g =
      advanced_first x rest stack (Ok (sequent_trees premises)) e g ∙ ap Ok
      (sym (ap sequent_trees f ∙ trees-append premises rest))

  -- a refusal of the rule
  pub gives_fault : (x : Sequent) (rest stack : List Sequent) (fault : RuleFault) → stack ≡ x ∷ rest
      → (fault ≢ NoMemory → calculus (site env goal (sequent_tree x)) step ≡ Err fault)
      → Rule fault ≢ Rule NoMemory → advanced env goal step (sequent_trees stack) ≡ Err (Rule fault)
  gives_fault x rest stack fault e f n = advanced_first x rest stack (Err fault) e
      (f (λ same. n (ap Rule same)))
