-- What the rules on names ask of the terms that they search.
use Rattle.std.specs.Prelude.{◌≡◌, ℕ, List, [], ◌∷◌, ◌++◌, flat_map, true, false}
use Rattle.std.specs.Prelude.{if◌then◌else◌}
use Rattle.sq_term.specs.declared.signature.FunDecl.{FunDecl}
use Rattle.sq_term.specs.Lists.{Member, Each}
use Rattle.sq_term.specs.Symbols.{Kind}
use Rattle.sq_term.specs.Ground.{Ground, named, applied, atom, Grounds, none, more}
use Rattle.sq_term.specs.Signatures.{function_role, is_hash}
use Rattle.sq_term.specs.GroundOccurrences.{Role, bare, public, key, is_name, occurrences, IsAbsent}
use Rattle.sq_term.specs.GroundOccurrences.{holds_no_atom}

-- the occurrence is as a key of f
abbrev pub IsKeyOf : Kind → Role → Type 0
IsKeyOf f bare = ⊥
IsKeyOf f public = ⊥
IsKeyOf f (key g m test) = g ≡ f

abbrev pub IsKeyOrPublic : Kind → Role → Type 0
IsKeyOrPublic f bare = ⊥
IsKeyOrPublic f public = Unit {0}
IsKeyOrPublic f (key g m test) = g ≡ f

-- the messages under the key, in the order of their applications: all of them
abbrev pub messages : List Role → List Ground
messages [] = []
messages (bare ∷ rs) = messages rs
messages (public ∷ rs) = messages rs
messages (key f m test ∷ rs) = m ∷ messages rs

-- and without those of tests
abbrev pub untested_messages : List Role → List Ground
untested_messages [] = []
untested_messages (bare ∷ rs) = untested_messages rs
untested_messages (public ∷ rs) = untested_messages rs
untested_messages (key f m test ∷ rs) =
    if test then untested_messages rs else m ∷ untested_messages rs

-- the occurrences of the name n(is) in all of the terms, one after the other
abbrev pub occurrences_among : List FunDecl → ℕ → List ℕ → List Ground → List Role
occurrences_among funs n is ts = flat_map (occurrences funs n is false) ts

abbrev pub HoldsNoAtom : Ground → Type 0
HoldsNoAtom t = holds_no_atom t ≡ true

-- a context is a term whose atoms are its holes
abbrev mutual
  pub filled : Ground → Ground → Ground
  filled x (named n is) = named n is
  filled x (applied f is ts) = applied f is (all_filled x ts)
  filled x (atom k) = x

  pub all_filled : Ground → Grounds → Grounds
  all_filled x none = none
  all_filled x (more t ts) = more (filled x t) (all_filled x ts)

-- one of the contexts has a hole
abbrev pub HasHole : List Ground → Type 0
HasHole ts = (t : Ground) × Member ts t × (holds_no_atom t ≡ false)

-- What the pseudorandom rule asks of the contexts ks, the message t, the list ms of messages, the
-- key k(js) and the fresh name n(is): k occurs only as key of h; ms has every message hashed under
-- k, the holes not counted; no hole stands inside such a message; n is not k and occurs nowhere.
pub record IsPseudorandom (funs : List FunDecl) (h : Kind) (k : ℕ) (js : List ℕ) (n : ℕ)
    (is : List ℕ)
    (ks : List Ground) (t : Ground) (ms : List Ground) : Type 0 where
  pub is_a_hash : is_hash (function_role funs h) ≡ true
  pub has_hole : HasHole ks
  pub no_atoms : Each HoldsNoAtom (t ∷ ms)
  pub holes_outside : Each HoldsNoAtom (messages (occurrences_among funs k js ks))
  pub only_as_key : Each (IsKeyOf h) (occurrences_among funs k js (ks ++ t ∷ ms))
  pub is_complete : Each (Member ms) (messages (occurrences_among funs k js (ks ++ t ∷ ms)))
  pub is_another_name : is_name k js (named n is) ≡ false
  pub is_absent : Each (IsAbsent funs n is) (ks ++ t ∷ ms)
