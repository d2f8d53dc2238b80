-- A name that stands at no place of the list does not occur.
use Rattle.std.proofs.Common.{◌≡◌, refl, sym, ◌∙◌, List, [], ◌∷◌, map, true, false}
use Rattle.sq_term.specs.declared.term.Idx.{Idx}
use Rattle.sq_term.specs.Closed.{indices_closed}
use Rattle.sq_term.specs.GroundOccurrences.{Role, occurrences}
use Rattle.sq_term.specs.Lists.{Member, here}
use Rattle.sq_term.specs.Records.{world}
use Rattle.sq_term.specs.Translate.{World, Assignment, idx_values, translate}
use Rattle.sq_term.proofs.Members.{member-map, each_none}
use Rattle.sq_ground.specs.Truth.{is_true}
use Rattle.sq_occ.specs.Entries.{OccTree}
use Rattle.sq_occ.specs.Searches.{side_places}
use Rattle.sq_occ.specs.Listed.{IsListed, side_of}
use Rattle.sq_occ.specs.Facts.{entry_formula, occurs, AbsentWhereNoEntry}
use Rattle.sq_occ.proofs.Formulas.{disj_from, formula_from}
use Rattle.sq_occ.proofs.Theorem.{every_occurrence}
use Rattle.sq_occ.proofs.WalkLaw.{listed_more}

none-member : {A : Type 0} (xs : List A) → ((x : A) → Member xs x → ⊥) → xs ≡ []
none-member [] h = refl
none-member (x ∷ xs) h = absurd (h x here)

-- an entry that is met makes the formula true
pub listed_occurs : (w : World) (a : Assignment) (is : List Idx) (r : Role) (us : List OccTree)
    → indices_closed 0 is ≡ true → IsListed w a (idx_values a [] is) r us
    → is_true (translate w a [] (occurs is us)) ≡ true
listed_occurs w a is r us closed h =
    disj_from w a (λ u. false) [] (map (λ u. entry_formula is u []) us)
    (entry_formula is h.entry [])
    (member-map (λ u. entry_formula is u []) us h.entry h.is_in)
    (formula_from w a (λ u. false) is closed h.entry [] (record {
      values = h.values;
      fit = h.fit;
      guard = h.is_met;
      numbers = h.numbers;
      others = each_none _;
    }))

pub absent : AbsentWhereNoEntry
absent e s m left a n is t us facts sorted M plain closed sub none =
    none-member
    (occurrences e.funs n (idx_values a [] is) false (translate (world s m left) a [] t))
    (λ r i.
    let h : IsListed (world s m left) a (idx_values a [] is) r
    (side_places e.funs n (side_of left) s t) =
    every_occurrence e s m left a n (idx_values a [] is) t false r facts sorted M plain i in
    let yes : is_true (translate (world s m left) a [] (occurs is us)) ≡ true =
    listed_occurs (world s m left) a is r us closed
    (listed_more (world s m left) a (idx_values a [] is) r _ us sub h) in
    let no : true ≡ false = sym yes ∙ none in cc)
