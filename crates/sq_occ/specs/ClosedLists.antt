-- Lists are closed under messages.
use Rattle.std.specs.Prelude.{◌≡◌, ℕ, List, Bool, true, false}
use Rattle.sq_term.specs.declared.model.Model.{Model}
use Rattle.sq_term.specs.declared.model.Value.{Value}
use Rattle.sq_term.specs.GroundOccurrences as ground
use Rattle.sq_term.specs.GroundOccurrences.{Role}
use Rattle.sq_term.specs.Lists.{Member}
use Rattle.sq_term.specs.Models.{times_of, IsTraceModel}
use Rattle.sq_term.specs.Records.{world}
use Rattle.sq_term.specs.Symbols.{Kind}
use Rattle.sq_term.specs.Syntax.{TermTree}
use Rattle.sq_term.specs.Systems.{SystemTree}
use Rattle.sq_term.specs.Translate.{Assignment, translate}
use Rattle.sq_system.specs.Facts.{IsSystem}
use Rattle.sq_system.specs.Statements.{EnvTree}
use Rattle.sq_system.specs.WellFormed.{is_well_sorted}
use Rattle.sq_ground.specs.Holding.{Fits}
use Rattle.sq_ground.specs.Truth.{is_true}
use Rattle.sq_occ.specs.Entries.{key, OccTree}
use Rattle.sq_occ.specs.Searches.{side_places, holds_schema}
use Rattle.sq_occ.specs.Listed.{IsListed, side_of}

-- The message of an entry for name k, at values that make its guard true: each occurrence of a name
-- n in it is that of an entry of the list for n over the same term.
abbrev pub MessagesAreListed : Type 0
MessagesAreListed =
    (e : EnvTree) (s : SystemTree) (m : Model) (left : Bool) (a : Assignment) (k n : ℕ)
    (js : List ℕ) (t : TermTree) (u : OccTree) (f : Kind) (message : TermTree) (test : Bool)
    (es : List Value) (equated : Bool) (r : Role)
    → IsSystem s → is_well_sorted e s ≡ true → IsTraceModel s m → holds_schema t ≡ false
    → Member (side_places e.funs k (side_of left) s t) u → u.role ≡ key f message test
    → Fits (times_of m) u.bound es
    → is_true (translate (world s m left) a es u.guard) ≡ true
    → Member (ground.occurrences e.funs n js equated (translate (world s m left) a es message)) r
    → IsListed (world s m left) a js r (side_places e.funs n (side_of left) s t)
