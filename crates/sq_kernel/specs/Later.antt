-- What is declared later changes no step.
use Rattle.std.specs.Prelude.{◌≡◌, ◌<◌, ℕ, List, ◌++◌, length}
use Rattle.sq_system.specs.Sequents.{SequentTree}
use Rattle.sq_system.specs.Statements.{EnvTree}
use Rattle.sq_step.specs.declared.step.Step.{Step}
use Rattle.sq_kernel.specs.Closing.{ClosesGoal}
use Rattle.sq_kernel.specs.Proofs.{Leaves}

-- the one list begins with the other
abbrev pub Begins : {A : Type 0} → List A → List A → Type 0
Begins {A} xs ys = (more : List A) × (ys ≡ xs ++ more)

-- each list of the later environment begins with that of the earlier one
pub record Continues (earlier later : EnvTree) : Type 0 where
  pub names : Begins earlier.names later.names
  pub funs : Begins earlier.funs later.funs
  pub systems : Begins earlier.systems later.systems
  pub stmts : Begins earlier.stmts later.stmts

-- what steps leave under an environment they leave under each that continues it
abbrev pub LeavesStay : Type 0
LeavesStay =
    (earlier later : EnvTree) (goal : ℕ) (steps : List Step) (stack left : List SequentTree)
    → Continues earlier later → goal < length earlier.stmts
    → Leaves earlier goal steps stack left → Leaves later goal steps stack left

-- so steps that close a goal close it whatever is declared later
abbrev pub ClosingStays : Type 0
ClosingStays =
    (earlier later : EnvTree) (goal : ℕ) (steps : List Step)
    → Continues earlier later → goal < length earlier.stmts
    → ClosesGoal earlier goal steps → ClosesGoal later goal steps
