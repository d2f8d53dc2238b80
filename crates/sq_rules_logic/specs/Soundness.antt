-- What the soundness of the logic rows says.
use Rattle.std.specs.Prelude.{◌≡◌, ℕ, List, true, false}
use Rattle.sq_term.specs.declared.model.Model.{Model}
use Rattle.sq_term.specs.Lists.{Each}
use Rattle.sq_term.specs.Models.{IsTraceModel}
use Rattle.sq_system.specs.Sequents.{SequentTree}
use Rattle.sq_system.specs.Statements.{EnvTree}
use Rattle.sq_system.specs.Usable.{usable, is_axiom, statement_at, system_of}
use Rattle.sq_system.specs.WellFormed.{is_well_formed, IsEnvironment}
use Rattle.sq_ground.specs.Goals.{theory_of}
use Rattle.sq_ground.specs.Holding.{HoldsAt}
use Rattle.sq_step.specs.declared.step.Step.{Step}
use Rattle.sq_sequent.specs.Rows.{Row}
use Rattle.sq_sequent.specs.Site.{Site}

-- the lemmas and equivalences that goal g may use hold at the model
abbrev pub EarlierHoldAt : EnvTree → ℕ → Model → Type 0
EarlierHoldAt env g m =
    (k : ℕ) → usable env g k ≡ true → is_axiom (statement_at env k).kind ≡ false
    → HoldsAt (theory_of env g m) (statement_at env k).start

-- they do at every model of its system
abbrev pub EarlierHold : EnvTree → ℕ → Type 0
EarlierHold env g = (m : Model) → IsTraceModel (system_of env g) m → EarlierHoldAt env g m

-- Where the sequent is well-formed for its goal, it holds at a model of the goal's system wherever
-- the earlier lemmas and equivalences and each premise do.
abbrev pub PremisesSuffice : Site → List SequentTree → Type 0
PremisesSuffice at premises =
    is_well_formed at.env at.goal at.sequent ≡ true
    → (m : Model) → IsTraceModel (system_of at.env at.goal) m → EarlierHoldAt at.env at.goal m
    → Each (HoldsAt (theory_of at.env at.goal m)) premises
    → HoldsAt (theory_of at.env at.goal m) at.sequent

-- the logic rows are sound
abbrev pub RowSound : Type 0
RowSound =
    (at : Site) (step : Step) (premises : List SequentTree)
    → IsEnvironment at.env → Row at step premises → PremisesSuffice at premises
