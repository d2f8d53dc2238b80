-- The names that no binder may have, as a set.
use Rattle.std.specs.Prelude.{◌≡◌, ◌||◌, ℕ, List, String}
use Rattle.std.specs.HashSet.{HashSet, contains_text}
use Rattle.sq_sym.specs.Candidates.{among}

-- the set has the names of the variables and of the schema variables
abbrev pub HasNames : {Y S : Type 0} → List (List ℕ) → List (List ℕ) → HashSet (String Y) S → Type 0
HasNames vars schemas names =
    (q : List ℕ) → contains_text names q ≡ (among q vars || among q schemas)
