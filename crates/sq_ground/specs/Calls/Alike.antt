-- Ground terms that are the same up to the limits.
use Rattle.std.specs.Prelude.{◌≡◌, ℕ, ◌⊎◌, List, [], ◌∷◌}
use Rattle.sq_term.specs.Macros.{GroundMacro}
use Rattle.sq_term.specs.Ground.{Ground}
use Rattle.sq_term.specs.Records.{Record, field}
use Rattle.sq_ground.specs.Calls.Builds.{Passes}

-- equal, or both pass the limits
abbrev pub Alike : ℕ → Ground → Ground → Type 0
Alike room x y = (x ≡ y) ⊎ (Passes room x × Passes room y)

-- each macro has values that are alike
abbrev pub AlikeRecord : ℕ → Record → Record → Type 0
AlikeRecord room r s = (read : GroundMacro) → Alike room (field read r) (field read s)

abbrev pub AlikeRecords : ℕ → List Record → List Record → Type 0
AlikeRecords room [] [] = Unit {0}
AlikeRecords room (r ∷ rs) (s ∷ ss) = AlikeRecord room r s × AlikeRecords room rs ss
AlikeRecords room _ _ = ⊥
