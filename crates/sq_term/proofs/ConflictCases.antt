-- Conflicts of a find over two indices under a replication, and of its else branch.
use Rattle.std.proofs.Common.{◌≡◌, refl, List, [], ◌∷◌, true, false}
use Rattle.std.specs.Prelude.{Some, None}
use Rattle.sq_term.specs.declared.action.PathStep.{PathStep}
use Rattle.sq_term.specs.declared.action.PathStep.TheVariants.{Side, Rep, Branch, Found, NotFound}
use Rattle.sq_term.specs.declared.action.PathStep.TheVariants.{Done}
use Rattle.sq_term.specs.Systems.{in_conflict, clash}

abbrev found : List PathStep
found = Rep ∷ Found 2 ∷ Done ∷ []

abbrev not_found : List PathStep
not_found = Rep ∷ NotFound ∷ Done ∷ []

found_excludes_else : in_conflict found (0 ∷ 0 ∷ 0 ∷ []) not_found (0 ∷ []) ≡ true
found_excludes_else = refl

other_session : in_conflict found (0 ∷ 0 ∷ 0 ∷ []) not_found (1 ∷ []) ≡ false
other_session = refl

other_indices_found : in_conflict found (0 ∷ 0 ∷ 0 ∷ []) found (0 ∷ 0 ∷ 1 ∷ []) ≡ true
other_indices_found = refl

other_session_found : in_conflict found (0 ∷ 0 ∷ 0 ∷ []) found (1 ∷ 0 ∷ 1 ∷ []) ≡ false
other_session_found = refl

itself : in_conflict found (0 ∷ 0 ∷ 1 ∷ []) found (0 ∷ 0 ∷ 1 ∷ []) ≡ false
itself = refl

branches : in_conflict (Branch true ∷ Done ∷ []) [] (Branch false ∷ Done ∷ []) [] ≡ true
branches = refl

later_on_the_line : in_conflict (Branch true ∷ Done ∷ []) [] (Branch true ∷ Done ∷ Done ∷ []) []
    ≡ false
later_on_the_line = refl

sides_of_a_parallel : in_conflict (Side true ∷ Done ∷ []) [] (Side false ∷ Done ∷ []) [] ≡ false
sides_of_a_parallel = refl

clash_with_else : clash found not_found 0 ≡ Some (record { agree = 1; differ = 0 })
clash_with_else = refl

clash_with_itself : clash found found 0 ≡ Some (record { agree = 1; differ = 2 })
clash_with_itself = refl

no_second_clash : clash found found 1 ≡ None
no_second_clash = refl

no_indices_found : clash (Found 0 ∷ []) (Found 0 ∷ []) 0 ≡ None
no_indices_found = refl
