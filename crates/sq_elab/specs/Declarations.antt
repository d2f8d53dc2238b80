-- Symbols with the names that they would have, and candidates that are known to be taken.
use Rattle.std.specs.Prelude.{◌≡◌, ◌≢◌, ◌<◌, ℕ, List, Some, None, String}
use Rattle.std.specs.HashMap.{HashMap, get_by_text}
use Rattle.sq_sym.specs.declared.symbol.Symbol.{Symbol}
use Rattle.sq_sym.specs.Declarations.{found}
use Rattle.sq_elab.specs.declared.declare.Declared.{Declared}
use Rattle.sq_sym.specs.Candidates.{candidate}

-- what a contract sees of one
abbrev pub declaration : Declared → List ℕ × Symbol
declaration d = (d.name.now, d.what)

-- so many candidates of the name stand in the table
abbrev pub AreTaken : List (List ℕ × Symbol) → List ℕ → ℕ → Type 0
AreTaken table n k = (i : ℕ) → i < k → found (candidate n i) table ≢ None

-- the map tells for a name how many of its candidates stand in the table
abbrev pub IsTried : {Y S : Type 0} → List (List ℕ × Symbol) → HashMap (String Y) ℕ S → Type 0
IsTried table tried = (n : List ℕ) (k : ℕ) → get_by_text tried n ≡ Some k → AreTaken table n k
