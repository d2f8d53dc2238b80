-- What steps make of a stack of sequents, and the verdict on them.
use Rattle.std.specs.Prelude.{ℕ, suc, List, [], ◌∷◌, ◌++◌, length, Option, Some, None, option_map}
use Rattle.std.specs.Prelude.{Result, Ok, Err}
use Rattle.sq_system.specs.Sequents.{SequentTree}
use Rattle.sq_system.specs.Statements.{EnvTree}
use Rattle.sq_system.specs.Usable.{statement_at}
use Rattle.sq_system.specs.declared.fault.RuleFault.{RuleFault}
use Rattle.sq_system.specs.declared.fault.RuleFault.TheVariants as rule
use Rattle.sq_step.specs.declared.step.Step.{Step}
use Rattle.sq_sequent.specs.Logic.{logic_premises}
use Rattle.sq_sequent.specs.Site.{Site}
use Rattle.sq_kernel.specs.Closing.{site}
use Rattle.sq_kernel.specs.declared.fault.StepFault.{StepFault}
use Rattle.sq_kernel.specs.declared.fault.StepFault.TheVariants.{Extra, Rule}
use Rattle.sq_kernel.specs.declared.fault.Kind.{Kind}
use Rattle.sq_kernel.specs.declared.fault.Kind.TheVariants as kind
use Rattle.sq_kernel.specs.declared.fault.Verdict.{Verdict}
use Rattle.sq_kernel.specs.declared.fault.Verdict.TheVariants.{Closed, Rejected, Left}

-- the calculus: the premises of a step by the row of its family
abbrev pub calculus : Site → Step → Result (List SequentTree) RuleFault
calculus at step = logic_premises at step

-- premises in front of the rest
abbrev pub in_front : Result (List SequentTree) RuleFault → List SequentTree
    → Result (List SequentTree) StepFault
in_front (Ok premises) rest = Ok (premises ++ rest)
in_front (Err fault) rest = Err (Rule fault)

-- a step replaces the first sequent by its premises
abbrev pub advanced : EnvTree → ℕ → Step → List SequentTree → Result (List SequentTree) StepFault
advanced env goal step [] = Err Extra
advanced env goal step (s ∷ rest) = in_front (calculus (site env goal s) step) rest

-- why a step has no premises; want of memory is no reason
abbrev pub kind_of : StepFault → Option Kind
kind_of Extra = Some kind.Extra
kind_of (Rule rule.Shape) = Some kind.Shape
kind_of (Rule rule.HasSchema) = Some kind.HasSchema
kind_of (Rule (rule.BadOccurrence occurrence)) = Some (kind.BadOccurrence occurrence.name)
kind_of (Rule rule.TooLarge) = Some kind.TooLarge
kind_of (Rule rule.NoMemory) = None

abbrev pub at_end : List SequentTree → Verdict
at_end [] = Closed
at_end (s ∷ rest) = Left (length (s ∷ rest))

-- why the step after `done` ones is refused, or what the further steps make of the stack
abbrev pub after : ℕ → Result (List SequentTree) StepFault → (List SequentTree → Option Verdict)
    → Option Verdict
after done (Ok stack) further = further stack
after done (Err fault) further = option_map (Rejected (suc done)) (kind_of fault)

-- what the steps make of a stack, `done` ones having gone before
abbrev pub verdict_from : EnvTree → ℕ → ℕ → List Step → List SequentTree → Option Verdict
verdict_from env goal done [] stack = Some (at_end stack)
verdict_from env goal done (step ∷ steps) stack =
    after done (advanced env goal step stack) (verdict_from env goal (suc done) steps)

-- what the steps make of the goal's starting sequent
abbrev pub verdict_of : EnvTree → ℕ → List Step → Option Verdict
verdict_of env goal steps = verdict_from env goal 0 steps ((statement_at env goal).start ∷ [])
