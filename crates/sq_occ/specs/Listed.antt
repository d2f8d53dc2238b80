-- When a ground occurrence of a name is the value of an entry.
use Rattle.std.specs.Prelude.{◌≡◌, ℕ, List, [], Bool, true, false, if◌then◌else◌}
use Rattle.sq_term.specs.declared.model.Model.{Model}
use Rattle.sq_term.specs.declared.model.Value.{Value}
use Rattle.sq_term.specs.declared.term.Side.{Side}
use Rattle.sq_term.specs.declared.term.Side.TheVariants.{Left, Right}
use Rattle.sq_term.specs.GroundOccurrences as ground
use Rattle.sq_term.specs.GroundOccurrences.{Role}
use Rattle.sq_term.specs.Lists.{Member}
use Rattle.sq_term.specs.Models.{IsTraceModel}
use Rattle.sq_term.specs.Records.{world}
use Rattle.sq_term.specs.Syntax.{TermTree}
use Rattle.sq_term.specs.Systems.{SystemTree}
use Rattle.sq_term.specs.Translate.{World, Assignment, idx_values, translate}
use Rattle.sq_system.specs.Facts.{IsSystem}
use Rattle.sq_system.specs.Statements.{EnvTree}
use Rattle.sq_system.specs.WellFormed.{is_well_sorted}
use Rattle.sq_ground.specs.Holding.{Fits}
use Rattle.sq_ground.specs.Truth.{is_true}
use Rattle.sq_occ.specs.Entries.{RoleTree, bare, public, key, OccTree}
use Rattle.sq_occ.specs.Searches.{side_places, holds_schema}

-- The ground role is that of the entry, at the values of its binders, or the entry's is bare. A
-- test is a test of the ground term.
abbrev pub Covers : World → Assignment → List Value → RoleTree → Role → Type 0
Covers w a es bare r = Unit {0}
Covers w a es public r = r ≡ ground.public
Covers w a es (key f m test) r =
    (side : Bool) × (r ≡ ground.key f (translate w a es m) side) × (test ≡ true → side ≡ true)

-- an occurrence in role r, with these numbers, is that of an entry of the list under values of its
-- binders that make its guard true
pub record IsListed (w : World) (a : Assignment) (js : List ℕ) (r : Role) (us : List OccTree)
    : Type 0 where
  pub entry : OccTree
  pub is_in : Member us entry
  pub values : List Value
  pub fit : Fits w.times entry.bound values
  pub numbers : idx_values a values entry.args ≡ js
  pub is_met : is_true (translate w a values entry.guard) ≡ true
  pub covers : Covers w a values entry.role r

abbrev pub side_of : Bool → Side
side_of left = if left then Left else Right

-- The occurrence theorem. In a term without schema variables, at each model of a system, on each
-- side and under each assignment: every ground occurrence of a name in the term's translation, at
-- any depth of unfolding, is that of an entry of the list.
abbrev pub EveryOccurrenceIsListed : Type 0
EveryOccurrenceIsListed =
    (e : EnvTree) (s : SystemTree) (m : Model) (left : Bool) (a : Assignment) (n : ℕ)
    (js : List ℕ) (t : TermTree) (equated : Bool) (r : Role)
    → IsSystem s → is_well_sorted e s ≡ true → IsTraceModel s m → holds_schema t ≡ false
    → Member (ground.occurrences e.funs n js equated (translate (world s m left) a [] t)) r
    → IsListed (world s m left) a js r (side_places e.funs n (side_of left) s t)
