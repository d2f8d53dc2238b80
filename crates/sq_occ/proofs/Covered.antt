-- The list of a term has an entry for each ground occurrence on each side that is searched.
use Rattle.std.proofs.Common.{◌≡◌, ℕ, List, ◌++◌, true, false}
use Rattle.sq_term.specs.declared.term.Side.{Side}
use Rattle.sq_term.specs.declared.term.Side.TheVariants.{Left, Right, Both}
use Rattle.sq_term.specs.GroundOccurrences.{Role}
use Rattle.sq_term.specs.Records.{world}
use Rattle.sq_term.specs.Syntax.{TermTree}
use Rattle.sq_term.specs.Systems.{SystemTree}
use Rattle.sq_term.specs.Translate.{World, Assignment}
use Rattle.sq_term.proofs.Members.{member-append_left, member-append_right}
use Rattle.sq_system.specs.Facts.{IsSystem}
use Rattle.sq_system.specs.Statements.{EnvTree}
use Rattle.sq_occ.specs.Entries.{OccTree}
use Rattle.sq_occ.specs.Searches.{side_places, places, holds_schema}
use Rattle.sq_occ.specs.Listed.{IsListed}
use Rattle.sq_occ.specs.Calls.Answers.{ListsEveryOccurrence}
use Rattle.sq_occ.proofs.Theorem.{every_occurrence}

module _ (w : World) (a : Assignment) (js : List ℕ) (r : Role) where
  in_left : (us vs : List OccTree) → IsListed w a js r us → IsListed w a js r (us ++ vs)
  in_left us vs h = record {
    entry = h.entry;
    is_in = member-append_left us vs h.entry h.is_in;
    values = h.values;
    fit = h.fit;
    numbers = h.numbers;
    is_met = h.is_met;
    covers = h.covers;
  }

  in_right : (us vs : List OccTree) → IsListed w a js r vs → IsListed w a js r (us ++ vs)
  in_right us vs h = record {
    entry = h.entry;
    is_in = member-append_right us vs h.entry h.is_in;
    values = h.values;
    fit = h.fit;
    numbers = h.numbers;
    is_met = h.is_met;
    covers = h.covers;
  }

pub covered : (e : EnvTree) (s : SystemTree) (n : ℕ) (side : Side) (t : TermTree) → IsSystem s
    → holds_schema t ≡ false
    → ListsEveryOccurrence e s n side t (places e.funs s n side t)
covered e s n Left t sys none m true a js equated r sorted model searched i =
    every_occurrence e s m true a n js t equated r sys sorted model none i
covered e s n Left t sys none m false a js equated r sorted model searched i =
    absurd (let x : false ≡ true = searched in cc)
covered e s n Right t sys none m true a js equated r sorted model searched i =
    absurd (let x : true ≡ false = searched in cc)
covered e s n Right t sys none m false a js equated r sorted model searched i =
    every_occurrence e s m false a n js t equated r sys sorted model none i
covered e s n Both t sys none m true a js equated r sorted model searched i =
    in_left (world s m true) a js r (side_places e.funs n Left s t)
    (side_places e.funs n Right s t)
    (every_occurrence e s m true a n js t equated r sys sorted model none i)
covered e s n Both t sys none m false a js equated r sorted model searched i =
    in_right (world s m false) a js r (side_places e.funs n Left s t)
    (side_places e.funs n Right s t)
    (every_occurrence e s m false a n js t equated r sys sorted model none i)
