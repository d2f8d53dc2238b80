-- Where the first declaration of each symbol stands in a table.
use Rattle.std.specs.Prelude.{◌≡◌, ℕ, ◌+◌, Bool, false, nat_eq, List, [], ◌∷◌, Option, Some, None}
use Rattle.std.specs.Prelude.{option_map, unwrap_or, slice_get, if◌then◌else◌}
use Rattle.std.specs.HashMap.{get}
use Rattle.sq_sym.specs.declared.symbol.Symbol.{Symbol}
use Rattle.sq_print.specs.declared.spelling.Spellings.{Spellings}
use Rattle.sq_print.specs.Names.{is_name, is_function, is_action}

-- the place of the first declaration whose symbol passes the test, where the list begins at a place
abbrev pub place_from : ℕ → (Symbol → Bool) → List (List ℕ × Symbol) → Option ℕ
place_from at test [] = None
place_from at test (d ∷ ds) = if test d.1 then Some at else place_from (at + 1) test ds

-- the places are those of a list of declarations that begins at a place
pub record TellsFrom (at : ℕ) (ds : List (List ℕ × Symbol)) (system : ℕ) (s : Spellings)
    : Type 0 where
  pub names : (q : ℕ) → get nat_eq s.names q ≡ place_from at (is_name q) ds
  pub functions : (q : ℕ) → get nat_eq s.functions q ≡ place_from at (is_function q) ds
  pub actions : (q : ℕ) → get nat_eq s.actions q ≡ place_from at (is_action system q) ds

abbrev pub Tells : List (List ℕ × Symbol) → ℕ → Spellings → Type 0
Tells ds system s = TellsFrom 0 ds system s

-- the name of the declaration at a place, or nothing
abbrev pub word_at : List (List ℕ × Symbol) → Option ℕ → List ℕ
word_at ds None = []
word_at ds (Some at) = unwrap_or (option_map (λ d. d.0) (slice_get ds at)) []

abbrev pub passes : (Symbol → Bool) → Option Symbol → Bool
passes test None = false
passes test (Some s) = test s

-- the symbol, if there is one, is noted at a place, over what was noted of it before
pub record Notes (old new : Spellings) (what : Option Symbol) (system at : ℕ) : Type 0 where
  pub names : (q : ℕ)
      → get nat_eq new.names q
      ≡ (if passes (is_name q) what then Some at else get nat_eq old.names q)
  pub functions : (q : ℕ)
      → get nat_eq new.functions q
      ≡ (if passes (is_function q) what then Some at else get nat_eq old.functions q)
  pub actions : (q : ℕ)
      → get nat_eq new.actions q
      ≡ (if passes (is_action system q) what then Some at else get nat_eq old.actions q)
