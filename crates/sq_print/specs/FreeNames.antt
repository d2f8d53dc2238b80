-- Names that a binder may take.
use Rattle.std.specs.Prelude.{◌≡◌, ◌<◌, ◌||◌, ℕ, Bool, true, false, List}
use Rattle.sq_print.specs.Names.{Names, is_used}
use Rattle.sq_sym.specs.Candidates.{among, candidate}

-- a symbol of the table, a variable, a schema variable or a binder around has the name
abbrev pub is_taken : Names → List (List ℕ) → List ℕ → Bool
is_taken ns around x = is_used ns x || among x around

-- the first candidate of the stem that is not taken
pub record IsFirstFree (ns : Names) (around : List (List ℕ)) (s x : List ℕ) : Type 0 where
  pub place : ℕ
  pub is : x ≡ candidate s place
  pub free : is_taken ns around x ≡ false
  pub taken_before : (k : ℕ) → k < place → is_taken ns around (candidate s k) ≡ true
