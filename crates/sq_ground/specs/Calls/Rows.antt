-- Ground terms that are joined from the right.
use Rattle.std.specs.Prelude.{◌≡◌, ℕ, ◌<◌, ◌≤◌, ◌⊎◌, List, [], ◌∷◌, map, Result, Ok, Err}
use Rattle.sq_term.specs.declared.term.SizeFault.{SizeFault}
use Rattle.sq_term.specs.declared.term.SizeFault.TheVariants.{TooLarge}
use Rattle.sq_term.specs.Symbols.{Kind}
use Rattle.sq_term.specs.Ground.{Ground, ground}
use Rattle.sq_term.specs.GroundFormulas.{constant, binary, conditional}
use Rattle.sq_ground.specs.declared.built.Built.{Built}
use Rattle.sq_ground.specs.declared.row.Row.{Row}
use Rattle.sq_ground.specs.Calls.GroundMeasure.{total, deepest}

abbrev pub built_ground : Built → Ground
built_ground b = ground b.term

-- the constant `unit` when empty, the element when single, else nested to the right under f
abbrev pub joined : Kind → Kind → List Ground → Ground
joined f unit [] = constant unit
joined f unit (t ∷ []) = t
joined f unit (t ∷ u ∷ rest) = binary f t (joined f unit (u ∷ rest))

-- conditionals nested to the right
abbrev pub nested : List Ground → List Ground → Ground → Ground
nested (t ∷ ts) (f ∷ fs) other = conditional t f (nested ts fs other)
nested _ _ other = other

abbrev pub RowPasses : ℕ → List Ground → Type 0
RowPasses room gs = (room < total gs) ⊎ (1024 < deepest gs)

-- these ground terms, or TooLarge only where together they pass the limits
abbrev pub BuildsEach : ℕ → List Ground → Result Row SizeFault → Type 0
BuildsEach room gs (Ok r) = (map built_ground r.parts ≡ gs) × (r.size ≡ total gs) × (r.size ≤ room)
BuildsEach room gs (Err e) = e ≡ TooLarge → RowPasses room gs
