-- Lists of the values of the binders around a body.
use Rattle.std.specs.Prelude.{◌≡◌, ℕ, ◌<◌, ◌≤◌, List, ◌∷◌, length, Result, Ok, Err, Some}
use Rattle.sq_term.specs.declared.term.SizeFault.{SizeFault}
use Rattle.sq_term.specs.declared.term.SizeFault.TheVariants.{TooLarge}
use Rattle.sq_term.specs.declared.model.Value.{Value}
use Rattle.sq_term.specs.declared.model.Value.TheVariants.{Index as Number, Time as Moment}

-- one more binder
abbrev pub with_index : List Value → ℕ → List Value
with_index bs n = Number n ∷ bs

abbrev pub with_position : List Value → ℕ → List Value
with_position bs p = Moment (Some p) ∷ bs

-- these lists, or TooLarge only where there are more than 1,024
abbrev pub Lists : List (List Value) → Result (List (List Value)) SizeFault → Type 0
Lists xs (Ok ys) = (ys ≡ xs) × (length xs ≤ 1024)
Lists xs (Err e) = e ≡ TooLarge → 1024 < length xs
