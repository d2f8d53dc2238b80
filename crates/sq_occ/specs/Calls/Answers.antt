-- What the call for an occurrence list answers.
use Rattle.std.specs.Prelude.{◌≡◌, ℕ, List, [], Bool, true, false}
use Rattle.sq_term.specs.declared.model.Model.{Model}
use Rattle.sq_term.specs.declared.term.Side.{Side}
use Rattle.sq_term.specs.declared.term.Side.TheVariants.{Left, Right, Both}
use Rattle.sq_term.specs.GroundOccurrences as ground
use Rattle.sq_term.specs.GroundOccurrences.{Role}
use Rattle.sq_term.specs.Lists.{Member}
use Rattle.sq_term.specs.Models.{IsTraceModel}
use Rattle.sq_term.specs.Records.{world}
use Rattle.sq_term.specs.Syntax.{TermTree}
use Rattle.sq_term.specs.Systems.{SystemTree}
use Rattle.sq_term.specs.Translate.{Assignment, translate}
use Rattle.sq_system.specs.Statements.{EnvTree}
use Rattle.sq_system.specs.WellFormed.{is_well_sorted}
use Rattle.sq_occ.specs.Entries.{OccTree}
use Rattle.sq_occ.specs.Listed.{IsListed}

-- the left side, or the right one, is searched
abbrev pub IsSearched : Side → Bool → Type 0
IsSearched Left left = left ≡ true
IsSearched Right left = left ≡ false
IsSearched Both left = Unit {0}

-- In each model, on each side that is searched and under each assignment: every ground occurrence
-- of
-- the name in the term's translation, at any depth of unfolding, is that of an entry of the list.
abbrev pub ListsEveryOccurrence : EnvTree → SystemTree → ℕ → Side → TermTree → List OccTree
    → Type 0
ListsEveryOccurrence e s n side t us =
    (m : Model) (left : Bool) (a : Assignment) (js : List ℕ) (equated : Bool) (r : Role)
    → is_well_sorted e s ≡ true → IsTraceModel s m → IsSearched side left
    → Member (ground.occurrences e.funs n js equated (translate (world s m left) a [] t)) r
    → IsListed (world s m left) a js r us
