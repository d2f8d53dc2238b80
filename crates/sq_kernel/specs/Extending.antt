-- What further steps make of a proof, or the first reason why they make nothing.
use Rattle.std.specs.Prelude.{ℕ, suc, List, [], ◌∷◌, ◌++◌, drop, if◌then◌else◌, Result, Ok, Err}
use Rattle.sq_system.specs.Sequents.{SequentTree}
use Rattle.sq_system.specs.Statements.{EnvTree}
use Rattle.sq_step.specs.declared.step.Step.{Step}
use Rattle.sq_kernel.specs.declared.extending.ExtendFault.{ExtendFault}
use Rattle.sq_kernel.specs.declared.extending.ExtendFault.TheVariants as fault
use Rattle.sq_kernel.specs.declared.extending.GoalNames.{GoalNames}
use Rattle.sq_kernel.specs.declared.fault.StepFault.{StepFault}
use Rattle.sq_kernel.specs.declared.fault.StepFault.TheVariants.{Rule}
use Rattle.sq_system.specs.declared.fault.RuleFault.TheVariants as rule
use Rattle.sq_kernel.specs.Goals.{GoalTree, is_named}
use Rattle.sq_kernel.specs.Proofs.{ProofTree}
use Rattle.sq_kernel.specs.Verdicts.{advanced}

-- what is told of step n; want of memory is no refusal
abbrev pub told : ℕ → StepFault → ExtendFault
told n (Rule rule.NoMemory) = fault.NoMemory
told n reason = fault.Step n reason

-- step n is refused, or what the further steps make of the stack
abbrev pub go_on : ℕ → Result (List SequentTree) StepFault
    → (List SequentTree → Result (List SequentTree) ExtendFault)
    → Result (List SequentTree) ExtendFault
go_on n (Ok stack) further = further stack
go_on n (Err reason) further = Err (fault.Step n reason)

-- what the steps leave of a stack, `done` ones having gone before
abbrev pub left_from : EnvTree → ℕ → ℕ → List Step → List SequentTree
    → Result (List SequentTree) ExtendFault
left_from env goal done [] stack = Ok stack
left_from env goal done (step ∷ steps) stack =
    go_on (suc done) (advanced env goal step stack) (left_from env goal (suc done) steps)

abbrev pub named : List (List ℕ) → SequentTree → GoalNames → GoalTree
named schemas s n =
    record { sequent = s; schemas = schemas; vars = n.vars; labels = n.labels; known = n.known }

-- the goal, where it has one name for each of its parts
abbrev pub checked : GoalTree → Result GoalTree ExtendFault
checked g = if is_named g then Ok g else Err fault.Names

abbrev pub both : Result GoalTree ExtendFault → Result (List GoalTree) ExtendFault
    → Result (List GoalTree) ExtendFault
both (Ok g) (Ok goals) = Ok (g ∷ goals)
both (Ok g) (Err reason) = Err reason
both (Err reason) goals = Err reason

-- the i-th sequent with the i-th names, where there are as many of both
abbrev pub each_named : List (List ℕ) → List SequentTree → List GoalNames
    → Result (List GoalTree) ExtendFault
each_named schemas [] [] = Ok []
each_named schemas (s ∷ ss) (n ∷ ns) =
    both (checked (named schemas s n)) (each_named schemas ss ns)
each_named schemas [] (n ∷ ns) = Err fault.Names
each_named schemas (s ∷ ss) [] = Err fault.Names

-- the sequents that are left with their names
abbrev pub named_each : List (List ℕ) → List GoalNames → Result (List SequentTree) ExtendFault
    → Result (List GoalTree) ExtendFault
named_each schemas names (Ok left) = each_named schemas left names
named_each schemas names (Err reason) = Err reason

-- what the steps leave of the first of these goals alone; where there is none, nothing
abbrev pub left_of : EnvTree → ℕ → List Step → List GoalNames → List GoalTree
    → Result (List GoalTree) ExtendFault
left_of env goal steps names [] = Err fault.Names
left_of env goal steps names (g ∷ rest) =
    named_each g.schemas names (left_from env goal 0 steps (g.sequent ∷ []))

-- further steps, and goals in the place of the first one
abbrev pub grown : ProofTree → List Step → List GoalTree → ProofTree
grown p steps goals = record p { steps = p.steps ++ steps; goals = goals ++ drop 1 p.goals }

abbrev pub grown_by : ProofTree → List Step → Result (List GoalTree) ExtendFault
    → Result ProofTree ExtendFault
grown_by p steps (Ok goals) = Ok (grown p steps goals)
grown_by p steps (Err reason) = Err reason

-- The steps act on a stack of the first open goal's sequent alone. What they leave takes that
-- goal's place, with these names.
abbrev pub extended : EnvTree → ProofTree → List Step → List GoalNames
    → Result ProofTree ExtendFault
extended env p steps names = grown_by p steps (left_of env p.goal steps names p.goals)
