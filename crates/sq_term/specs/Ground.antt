-- Ground terms as definitions see them.
use Rattle.std.specs.Prelude.{ℕ, List, [], ◌∷◌}
use Rattle.sq_term.specs.declared.ground.GTerm.{GTerm}
use Rattle.sq_term.specs.declared.ground.GTerm.TheOpen.{GTerm-F}
use Rattle.sq_term.specs.declared.ground.GTerm.TheFolds.{fold-GTerm}
use Rattle.sq_term.specs.Symbols.{Kind, kind_of}

mutual
  pub data Ground : Type 0 where
    named : ℕ → List ℕ → Ground
    applied : Kind → List ℕ → Grounds → Ground
    atom : ℕ → Ground

  pub data Grounds : Type 0 where
    none : Grounds
    more : Ground → Grounds → Grounds

abbrev pub ground_row : List Ground → Grounds
ground_row [] = none
ground_row (t ∷ ts) = more t (ground_row ts)

abbrev pub ground_step : GTerm-F Ground → Ground
ground_step (GTerm-F.Name n is) = named n is
ground_step (GTerm-F.Fun f is ts) = applied (kind_of f) is (ground_row ts)
ground_step (GTerm-F.Atom k) = atom k

-- the ground term that the program's value holds
unfoldable pub ground : GTerm → Ground
ground = fold-GTerm Ground ground_step

abbrev pub grounds : List GTerm → Grounds
grounds [] = none
grounds (t ∷ ts) = more (ground t) (grounds ts)
