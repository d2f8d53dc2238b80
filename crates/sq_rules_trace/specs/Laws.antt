-- What is proved of the rows of time.
use Rattle.std.specs.Prelude.{◌≡◌, ◌↔◌, List, [], Bool, true, Some}
use Rattle.sq_base.specs.declared.sort.Sort.TheVariants.{Boolean}
use Rattle.sq_term.specs.declared.model.Model.{Model}
use Rattle.sq_term.specs.Ground.{Ground}
use Rattle.sq_term.specs.Lists.{Each}
use Rattle.sq_term.specs.Models.{IsTraceModel}
use Rattle.sq_term.specs.Syntax.{TermTree}
use Rattle.sq_term.specs.Translate.{Assignment, translate}
use Rattle.sq_system.specs.Facts.{IsSystem}
use Rattle.sq_system.specs.Sequents.{SequentTree, vars_of}
use Rattle.sq_system.specs.Sizes.{all_fit}
use Rattle.sq_system.specs.WellFormed.{IsEnvironment}
use Rattle.sq_ground.specs.Goals.{theory_of}
use Rattle.sq_ground.specs.Holding.{IsAssignment}
use Rattle.sq_ground.specs.Theories.{Theory, world_at}
use Rattle.sq_ground.specs.Truth.{IsTrueAt}
use Rattle.sq_step.specs.declared.step.Step.{Step}
use Rattle.sq_sequent.specs.Laws.{IsWellFormed}
use Rattle.sq_sequent.specs.Site.{Site}
use Rattle.sq_sequent.specs.Standing.{may_stand}
use Rattle.sq_rules_logic.specs.Soundness.{PremisesSuffice}
use Rattle.sq_rules_trace.specs.Rows.{system_at, TimeFact, TimeRow}
use Rattle.sq_rules_trace.specs.Time.{time_row}

-- on both sides, under every assignment of the sequent's variables and every valuation
abbrev pub IsTrueAlways : Theory → SequentTree → TermTree → Type 0
IsTrueAlways th s F =
    (left : Bool) (a : Assignment) → IsAssignment th (vars_of s) a → (v : Ground → Bool)
    → IsTrueAt v (translate (world_at th left) a [] F)

-- a fact of time is true in every trace of the goal's system, also of timestamps without a position
abbrev pub TimeFactsAreTrue : Type 0
TimeFactsAreTrue =
    (at : Site) (step : Step) (F : TermTree) (m : Model) → IsSystem (system_at at)
    → IsTraceModel (system_at at) m → TimeFact at step F
    → IsTrueAlways (theory_of at.env at.goal m) at.sequent F

-- it may stand in the sequent, which is well-formed with it for a hypothesis, but for the limits
abbrev pub TimeFactsMayStand : Type 0
TimeFactsMayStand =
    (at : Site) (step : Step) (F : TermTree) → IsEnvironment at.env → TimeFact at step F
    → may_stand at Boolean F ≡ true

-- the premises of a well-formed sequent are well-formed, where they are within the limits
abbrev pub TimeRowsKeepWellFormed : Type 0
TimeRowsKeepWellFormed =
    (at : Site) (step : Step) (premises : List SequentTree) → IsEnvironment at.env
    → IsWellFormed at at.sequent → TimeRow at step premises → all_fit premises ≡ true
    → Each (IsWellFormed at) premises

-- the rows of time are sound
abbrev pub TimeRowSound : Type 0
TimeRowSound =
    (at : Site) (step : Step) (premises : List SequentTree)
    → IsEnvironment at.env → TimeRow at step premises → PremisesSuffice at premises

-- the premises that are computed are those of the row
abbrev pub TimeRowsAgree : Site → Step → Type 0
TimeRowsAgree at step =
    (ps : List SequentTree) → (time_row at step ≡ Some ps) ↔ TimeRow at step ps

abbrev pub ComputedIsTheRow : Type 0
ComputedIsTheRow = (at : Site) (step : Step) → TimeRowsAgree at step
