-- Proofs as definitions see them: how one begins, and what it stands for.
use Rattle.std.specs.Prelude.{◌≡◌, ℕ, List, [], ◌∷◌, ◌++◌}
use Rattle.sq_system.specs.Sequents.{SequentTree}
use Rattle.sq_system.specs.Statements.{EnvTree}
use Rattle.sq_system.specs.Usable.{statement_at}
use Rattle.sq_step.specs.declared.step.Step.{Step}
use Rattle.sq_sequent.specs.Rows.{Replaces}
use Rattle.sq_kernel.specs.declared.proof.Proof.{Proof}
use Rattle.sq_kernel.specs.Closing.{site}
use Rattle.sq_kernel.specs.Goals.{GoalTree, goal_trees, sequents_of}
use Rattle.sq_kernel.specs.Openings.{opening}

-- the number of the statement that is proved, the steps so far, and the goals that are open
pub record ProofTree : Type 0 where
  pub goal : ℕ
  pub steps : List Step
  pub goals : List GoalTree

-- what the program's value holds
abbrev pub proof_tree : Proof → ProofTree
proof_tree p = record { goal = p.goal; steps = p.steps; goals = goal_trees p.goals }

-- Each step replaces the first sequent by its premises, and these sequents are left after the last
-- step.
abbrev pub Leaves : EnvTree → ℕ → List Step → List SequentTree → List SequentTree → Type 0
Leaves env goal [] stack left = stack ≡ left
Leaves env goal (step ∷ steps) [] left = ⊥
Leaves env goal (step ∷ steps) (s ∷ rest) left =
    (premises : List SequentTree) × Replaces (site env goal s) step premises
    × Leaves env goal steps (premises ++ rest) left

-- the proof stands for a sequent: of it alone its steps leave exactly the sequents of its open
-- goals
abbrev pub Stands : ProofTree → SequentTree → EnvTree → Type 0
Stands p first env = Leaves env p.goal p.steps (first ∷ []) (sequents_of p.goals)

-- the proof of a statement, without steps
abbrev pub begun : EnvTree → ℕ → ProofTree
begun env goal =
    record { goal = goal; steps = []; goals = opening (statement_at env goal) ∷ [] }
