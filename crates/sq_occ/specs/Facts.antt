-- The formula that says that a name stands at one of the places of a list.
use Rattle.std.specs.Prelude.{◌≡◌, ℕ, List, [], ◌∷◌, ◌++◌, map, Bool, true, false, if◌then◌else◌}
use Rattle.sq_base.specs.declared.sort.Sort.{Sort}
use Rattle.sq_term.specs.declared.model.Model.{Model}
use Rattle.sq_term.specs.declared.term.Idx.{Idx}
use Rattle.sq_term.specs.Closed.{indices_closed}
use Rattle.sq_term.specs.Formulas.{truth, falsity, both, either}
use Rattle.sq_term.specs.GroundOccurrences.{IsAbsent}
use Rattle.sq_term.specs.Lists.{Member, Each}
use Rattle.sq_term.specs.Models.{IsTraceModel}
use Rattle.sq_term.specs.Records.{world}
use Rattle.sq_term.specs.Syntax.{TermTree, idx_eq, some}
use Rattle.sq_term.specs.Systems.{SystemTree}
use Rattle.sq_term.specs.Translate.{Assignment, idx_values, translate}
use Rattle.sq_term.specs.TreeEquality.{is_same_tree}
use Rattle.sq_system.specs.Facts.{IsSystem}
use Rattle.sq_system.specs.Statements.{EnvTree}
use Rattle.sq_system.specs.WellFormed.{is_well_sorted}
use Rattle.sq_ground.specs.Truth.{is_true}
use Rattle.sq_occ.specs.Entries.{OccTree}
use Rattle.sq_occ.specs.Searches.{side_places, holds_schema}
use Rattle.sq_occ.specs.Listed.{side_of}

-- true when empty, the element when single, else nested to the right
abbrev pub conj_of : List TermTree → TermTree
conj_of [] = truth
conj_of (t ∷ []) = t
conj_of (t ∷ u ∷ rest) = both t (conj_of (u ∷ rest))

-- likewise with false and or
abbrev pub disj_of_all : List TermTree → TermTree
disj_of_all [] = falsity
disj_of_all (t ∷ []) = t
disj_of_all (t ∷ u ∷ rest) = either t (disj_of_all (u ∷ rest))

abbrev pub without : TermTree → List TermTree → List TermTree
without t [] = []
without t (u ∷ us) = if is_same_tree t u then without t us else u ∷ without t us

-- the first occurrence of each element
abbrev pub distinct : List TermTree → List TermTree
distinct [] = []
distinct (t ∷ ts) = t ∷ without t (distinct ts)

-- the disjunction after each element that is the same as an earlier one was taken out
abbrev pub disj_of : List TermTree → TermTree
disj_of ts = disj_of_all (distinct ts)

-- of values of the binders, the innermost first, the formula is true
abbrev pub some_bound : List Sort → TermTree → TermTree
some_bound [] t = t
some_bound (s ∷ b) t = some_bound b (some s t)

abbrev pub equations : List Idx → List Idx → List TermTree
equations (i ∷ is) (j ∷ js) = idx_eq i j ∷ equations is js
equations _ _ = []

-- a guard that is true is left out
abbrev pub guards : TermTree → List TermTree
guards t = if is_same_tree t truth then [] else t ∷ []

-- the entry's place is met by the name with these indices, and more is true there
abbrev pub entry_formula : List Idx → OccTree → List TermTree → TermTree
entry_formula is u more =
    some_bound u.bound (conj_of (guards u.guard ++ (equations is u.args ++ more)))

-- the name with these indices stands at one of the places
abbrev pub occurs : List Idx → List OccTree → TermTree
occurs is us = disj_of (map (λ u. entry_formula is u []) us)

-- Where the formula over a list that has all entries of a term is false, the name with the values
-- of these indices does not occur in what the term means.
abbrev pub AbsentWhereNoEntry : Type 0
AbsentWhereNoEntry =
    (e : EnvTree) (s : SystemTree) (m : Model) (left : Bool) (a : Assignment) (n : ℕ)
    (is : List Idx) (t : TermTree) (us : List OccTree)
    → IsSystem s → is_well_sorted e s ≡ true → IsTraceModel s m → holds_schema t ≡ false
    → indices_closed 0 is ≡ true → Each (Member us) (side_places e.funs n (side_of left) s t)
    → is_true (translate (world s m left) a [] (occurs is us)) ≡ false
    → IsAbsent e.funs n (idx_values a [] is) (translate (world s m left) a [] t)
