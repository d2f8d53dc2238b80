-- What holds of every row.
use Rattle.std.specs.Prelude.{◌≡◌, ◌↔◌, List, true, Some}
use Rattle.sq_base.specs.declared.sort.Sort.TheVariants.{Boolean}
use Rattle.sq_term.specs.Lists.{Each}
use Rattle.sq_term.specs.Syntax.{TermTree}
use Rattle.sq_system.specs.Sequents.{SequentTree}
use Rattle.sq_system.specs.Sizes.{fits, all_fit}
use Rattle.sq_system.specs.WellFormed.{is_well_formed}
use Rattle.sq_step.specs.declared.step.Step.{Step}
use Rattle.sq_sequent.specs.Site.{Site}
use Rattle.sq_sequent.specs.Logic.{logic_row}
use Rattle.sq_sequent.specs.Premises.{assuming}
use Rattle.sq_sequent.specs.Rows.{Row}
use Rattle.sq_sequent.specs.Standing.{may_stand}

-- the premises that are computed are those of the row
abbrev pub RowsAgree : Site → Step → Type 0
RowsAgree at step = (ps : List SequentTree) → (logic_row at step ≡ Some ps) ↔ Row at step ps

-- a sequent that is well-formed for the goal
abbrev pub IsWellFormed : Site → SequentTree → Type 0
IsWellFormed at s = is_well_formed at.env at.goal s ≡ true

-- the premises of a well-formed sequent are well-formed, where they are within the limits
abbrev pub PreservedByRows : Site → Step → Type 0
PreservedByRows at step =
    (ps : List SequentTree) → IsWellFormed at at.sequent → Row at step ps → all_fit ps ≡ true
    → Each (IsWellFormed at) ps

-- A formula may be assumed exactly where it may stand in the sequent: a well-formed sequent with it
-- for a hypothesis is well-formed, but for the limits, exactly then.
abbrev pub MayBeAssumed : Site → TermTree → Type 0
MayBeAssumed at f =
    IsWellFormed at at.sequent → fits (assuming at.sequent f) ≡ true
    → (may_stand at Boolean f ≡ true) ↔ IsWellFormed at (assuming at.sequent f)
