-- When a list of steps closes a goal.
use Rattle.std.specs.Prelude.{◌≡◌, ℕ, List, [], ◌∷◌, ◌++◌}
use Rattle.sq_system.specs.Sequents.{SequentTree}
use Rattle.sq_system.specs.Statements.{EnvTree}
use Rattle.sq_system.specs.Usable.{statement_at}
use Rattle.sq_step.specs.declared.step.Step.{Step}
use Rattle.sq_sequent.specs.Rows.{Replaces}
use Rattle.sq_sequent.specs.Site.{Site}

-- a sequent in the proof of a goal
abbrev pub site : EnvTree → ℕ → SequentTree → Site
site env goal s = record { env = env; goal = goal; sequent = s }

-- Each step replaces the first sequent by its premises, and the stack is empty after the last step
-- and not before.
abbrev pub Closes : EnvTree → ℕ → List Step → List SequentTree → Type 0
Closes env goal [] stack = stack ≡ []
Closes env goal (step ∷ steps) [] = ⊥
Closes env goal (step ∷ steps) (s ∷ rest) =
    (premises : List SequentTree) × Replaces (site env goal s) step premises
    × Closes env goal steps (premises ++ rest)

-- the steps close the goal
abbrev pub ClosesGoal : EnvTree → ℕ → List Step → Type 0
ClosesGoal env goal steps = Closes env goal steps ((statement_at env goal).start ∷ [])
