-- No atom stands in what a term means.
use Rattle.std.specs.Prelude.{◌≡◌, [], Bool, true, false}
use Rattle.sq_term.specs.declared.model.Model.{Model}
use Rattle.sq_term.specs.GroundOccurrences.{holds_no_atom}
use Rattle.sq_term.specs.Records.{world}
use Rattle.sq_term.specs.Syntax.{TermTree}
use Rattle.sq_term.specs.Systems.{SystemTree}
use Rattle.sq_term.specs.Translate.{Assignment, translate}
use Rattle.sq_system.specs.Facts.{IsSystem}
use Rattle.sq_occ.specs.Searches.{holds_schema}

-- in every trace of a system, a term without schema variables means a ground term without atoms
abbrev pub MeaningsHoldNoAtom : Type 0
MeaningsHoldNoAtom =
    (s : SystemTree) (m : Model) (left : Bool) (a : Assignment) (t : TermTree) → IsSystem s
    → holds_schema t ≡ false → holds_no_atom (translate (world s m left) a [] t) ≡ true
