-- A well-formed sequent is well-sorted at its site, and so is what an argument gives.
use Rattle.std.proofs.Common.{◌≡◌, ap, []}
use Rattle.std.proofs.Common.{true}
use Rattle.std.specs.Prelude.{option_map}
use Rattle.sq_base.specs.declared.sort.Sort.TheVariants.{Boolean, Timestamp}
use Rattle.sq_term.specs.Arguments.{a_time}
use Rattle.sq_term.specs.Closed.{ts_closed, is_closed}
use Rattle.sq_term.specs.Syntax.{TsTree, TermTree}
use Rattle.sq_typing.specs.Typing.{is_timestamp}
use Rattle.sq_typing.proofs.Formulas.{sort-of}
use Rattle.sq_system.specs.Scopes.{subject_of}
use Rattle.sq_system.specs.Sequents.{body_of}
use Rattle.sq_system.specs.WellFormed.{is_well_formed}
use Rattle.sq_step.specs.declared.step.TsArg.{TsArg}
use Rattle.sq_step.specs.declared.step.ValArg.TheVariants as val_arg
use Rattle.sq_sequent.specs.Rows.{Asks}
use Rattle.sq_sequent.specs.Site.{Site}
use Rattle.sq_sequent.specs.Standing.{signature_at, value_in}
use Rattle.sq_formula.proofs.ClosedSorts.{sorted-closed}
use Rattle.sq_sequent.proofs.Values.{value-sort, value-closed}
use Rattle.sq_rules_logic.proofs.RowSound.{sorted_at}
use Rattle.sq_rules_logic.proofs.Sorted.{goal-stands}
use Rattle.sq_rules_trace.specs.Rows.{IsTime}

pub goal_closed : (at : Site) (g : TermTree) → is_well_formed at.env at.goal at.sequent ≡ true
    → Asks at g → is_closed 0 g ≡ true
goal_closed at g formed asks =
    sorted-closed (signature_at at) Boolean g
    (sort-of (signature_at at) (subject_of (body_of at.sequent)) Boolean g
    (goal-stands (signature_at at) at.sequent g (sorted_at at formed) asks))

-- a timestamp argument
pub time_sort : (at : Site) (x : TsArg) (t : TsTree) → IsTime at x t
    → is_timestamp (signature_at at) [] t ≡ true
unfolding value_in
time_sort at x t e = value-sort at Timestamp (val_arg.Time x) (a_time t) (ap (option_map a_time) e)

pub time_closed : (at : Site) (x : TsArg) (t : TsTree) → IsTime at x t → ts_closed 0 t ≡ true
time_closed at x t e =
    value-closed (signature_at at) Timestamp (a_time t) (time_sort at x t e)
