-- What a step answers, by the rows of time.
use Rattle.std.specs.Prelude.{◌≡◌, List, true, false, Result, Ok, Err}
use Rattle.sq_system.specs.declared.sequent.Sequent.{Sequent}
use Rattle.sq_system.specs.Sequents.{SequentTree}
use Rattle.sq_system.specs.Sizes.{all_fit}
use Rattle.sq_system.specs.declared.fault.RuleFault.{RuleFault}
use Rattle.sq_system.specs.declared.fault.RuleFault.TheVariants.{Shape, HasSchema, BadOccurrence}
use Rattle.sq_system.specs.declared.fault.RuleFault.TheVariants.{TooLarge, NoMemory}
use Rattle.sq_step.specs.declared.step.Step.{Step}
use Rattle.sq_sequent.specs.Logic.{sequent_trees}
use Rattle.sq_sequent.specs.Site.{Site}
use Rattle.sq_rules_trace.specs.Rows.{TimeRow}

-- the row's premises, which are within the limits; Shape where no row applies, TooLarge where a
-- premise passes the limits
abbrev pub TimeAnswers : Site → Step → Result (List Sequent) RuleFault → Type 0
TimeAnswers at step (Ok premises) =
    TimeRow at step (sequent_trees premises) × (all_fit (sequent_trees premises) ≡ true)
TimeAnswers at step (Err Shape) = (premises : List SequentTree) → TimeRow at step premises → ⊥
TimeAnswers at step (Err HasSchema) = ⊥
TimeAnswers at step (Err (BadOccurrence occurrence)) = ⊥
TimeAnswers at step (Err TooLarge) =
    (premises : List SequentTree) × TimeRow at step premises × (all_fit premises ≡ false)
TimeAnswers at step (Err NoMemory) = Unit {0}
