-- A list of declarations: each the bytes of its name, and its symbol.
use Rattle.std.specs.Prelude.{◌≡◌, ℕ, ◌+◌, ◌<◌, ◌^◌, List, [], ◌∷◌, Option, Some, None}
use Rattle.std.specs.Prelude.{if◌then◌else◌, option_map, map, length}
use Rattle.std.specs.Str.{bytes_eq}
use Rattle.std.specs.declared.string.String.{String}
use Rattle.std.specs.declared.alloc.Global.{Global}
use Rattle.std.specs.String.{string_bytes}
use Rattle.sq_sym.specs.declared.symbol.Symbol.{Symbol}

-- the place and the symbol of the first that has the name
abbrev pub found : List ℕ → List (List ℕ × Symbol) → Option (ℕ × Symbol)
found name [] = None
found name (d ∷ ds) = if bytes_eq name d.0 then Some (0, d.1) else option_map (λ r. (r.0 + 1, r.1))
    (found name ds)

-- no name stands twice
abbrev pub NamesDiffer : List (List ℕ × Symbol) → Type 0
NamesDiffer [] = Unit {0}
NamesDiffer (d ∷ ds) = (found d.0 ds ≡ None) × NamesDiffer ds

-- what each table keeps
pub record IsTable (ds : List (List ℕ × Symbol)) : Type 0 where
  pub within : length ds < 2 ^ 32
  pub differ : NamesDiffer ds

-- what a contract sees of the entries
abbrev pub seen : List (String Global × Symbol) → List (List ℕ × Symbol)
seen = map (λ e. (string_bytes e.0, e.1))
