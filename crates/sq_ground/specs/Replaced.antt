-- A term with some places of `old` replaced by `new`.
use Rattle.std.specs.Prelude.{◌≡◌, ℕ, List, [], ◌∷◌, Bool, not, ⊤}
use Rattle.sq_term.specs.Symbols.{Kind}
use Rattle.sq_term.specs.Ground.{Ground, applied, Grounds, none, more}
use Rattle.sq_ground.specs.Lines.{Pair, component}

mutual
  pub data Replaced (old new : Ground) : Ground → Ground → Type 0 where
    whole : Replaced old new old new
    kept : (t : Ground) → Replaced old new t t
    inside : (f : Kind) (is : List ℕ) (ts us : Grounds) → AllReplaced old new ts us
        → Replaced old new (applied f is ts) (applied f is us)

  pub data AllReplaced (old new : Ground) : Grounds → Grounds → Type 0 where
    no_more : AllReplaced old new none none
    first_and_rest : (t u : Ground) (ts us : Grounds) → Replaced old new t u
        → AllReplaced old new ts us → AllReplaced old new (more t ts) (more u us)

-- on one side of the pair, the other side being kept
abbrev pub PairReplaced : Bool → Ground → Ground → Pair → Pair → Type 0
PairReplaced left old new p q =
    Replaced old new (component left p) (component left q)
    × (component (not left) p ≡ component (not left) q)

abbrev pub PairsReplaced : Bool → Ground → Ground → List Pair → List Pair → Type 0
PairsReplaced left old new [] [] = ⊤
PairsReplaced left old new (p ∷ ps) (q ∷ qs) =
    PairReplaced left old new p q × PairsReplaced left old new ps qs
PairsReplaced left old new _ _ = ⊥
