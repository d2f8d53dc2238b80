-- Lists of open goals, and how many labels there are.
use Rattle.std.proofs.Common.{◌≡◌, ℕ, zero, suc, refl, ap, ◌∙◌, List, [], ◌∷◌, ◌++◌, length}
use Rattle.std.proofs.Common.{length-append, arith}
use Rattle.sq_system.specs.declared.sequent.OpenGoal.{OpenGoal}
use Rattle.sq_kernel.specs.Goals.{goal_tree, goal_trees}
use Rattle.sq_kernel.specs.Labels.{hypothesis_label, hypothesis_labels}

pub goal_trees-append : (xs ys : List OpenGoal)
    → goal_trees (xs ++ ys) ≡ goal_trees xs ++ goal_trees ys
goal_trees-append [] ys = refl
goal_trees-append (x ∷ xs) ys = ap (λ gs. goal_tree x ∷ gs) (goal_trees-append xs ys)

pub labels-length : (n : ℕ) → length (hypothesis_labels n) ≡ n
labels-length zero = refl
labels-length (suc n) =
    length-append (hypothesis_labels n) (hypothesis_label n ∷ [])
    ∙ (let e = labels-length n in omega arith)
