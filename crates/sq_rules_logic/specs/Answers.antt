-- What a step answers, by the rows of the calculus.
use Rattle.std.specs.Prelude.{◌≡◌, List, false, Result, Ok, Err}
use Rattle.sq_system.specs.declared.sequent.Sequent.{Sequent}
use Rattle.sq_system.specs.Sequents.{SequentTree}
use Rattle.sq_system.specs.Sizes.{all_fit}
use Rattle.sq_system.specs.declared.fault.RuleFault.{RuleFault}
use Rattle.sq_system.specs.declared.fault.RuleFault.TheVariants.{Shape, HasSchema, BadOccurrence}
use Rattle.sq_system.specs.declared.fault.RuleFault.TheVariants.{TooLarge, NoMemory}
use Rattle.sq_step.specs.declared.step.Step.{Step}
use Rattle.sq_sequent.specs.Logic.{sequent_trees}
use Rattle.sq_sequent.specs.Rows.{Row, Replaces}
use Rattle.sq_sequent.specs.Site.{Site}

-- the row's premises; Shape where no row applies, TooLarge where a premise passes the limits
abbrev pub Answers : Site → Step → Result (List Sequent) RuleFault → Type 0
Answers at step (Ok premises) = Replaces at step (sequent_trees premises)
Answers at step (Err Shape) = (premises : List SequentTree) → Row at step premises → ⊥
Answers at step (Err HasSchema) = ⊥
Answers at step (Err (BadOccurrence occurrence)) = ⊥
Answers at step (Err TooLarge) =
    (premises : List SequentTree) × Row at step premises × (all_fit premises ≡ false)
Answers at step (Err NoMemory) = Unit {0}
