-- The first of n, n1, n2 and so on that is not in a table.
use Rattle.std.specs.Prelude.{ℕ, zero, suc, List, [], ◌∷◌, ◌++◌, length, is_some}
use Rattle.std.specs.Prelude.{if◌then◌else◌}
use Rattle.sq_sym.specs.declared.symbol.Symbol.{Symbol}
use Rattle.sq_sym.specs.Candidates.{candidate}
use Rattle.sq_sym.specs.Declarations.{found}

-- from candidate k on; one of `left` more is surely free
abbrev pub first_free : List (List ℕ × Symbol) → List ℕ → ℕ → ℕ → List ℕ
first_free table n zero k = candidate n k
first_free table n (suc left) k =
    if is_some (found (candidate n k) table) then first_free table n left (suc k)
    else candidate n k

abbrev pub fresh_name : List (List ℕ × Symbol) → List ℕ → List ℕ
fresh_name table n = first_free table n (length table) 0

-- the table with these symbols behind, each under the first name that is free so far
abbrev pub with_fresh : List (List ℕ × Symbol) → List (List ℕ × Symbol) → List (List ℕ × Symbol)
with_fresh table [] = table
with_fresh table (d ∷ ds) = with_fresh (table ++ (fresh_name table d.0, d.1) ∷ []) ds
