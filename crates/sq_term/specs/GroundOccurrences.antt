-- Where a name occurs in a ground term, and in which role.
use Rattle.std.specs.Prelude.{◌≡◌, ℕ, List, [], ◌∷◌, ◌++◌, Bool, true, false, if◌then◌else◌, ◌==◌}
use Rattle.std.specs.Prelude.{◌&&◌}
use Rattle.sq_term.specs.declared.signature.FunDecl.{FunDecl}
use Rattle.sq_term.specs.Lists.{same_numbers}
use Rattle.sq_term.specs.Symbols.{Kind}
use Rattle.sq_term.specs.Signatures.{function_role, is_hash, is_keyed, is_pk, is_equality}
use Rattle.sq_term.specs.Ground.{Ground, named, applied, atom, Grounds, none, more}

-- `key f m test`: the second argument of f(m,k), for a hash or a signing function f; it is a test
-- where f is a hash and that application is itself an argument of `eq`. `public`: the argument of a
-- public key. `bare`: any other occurrence.
pub data Role : Type 0 where
  bare public : Role
  key : Kind → Ground → Bool → Role

abbrev pub is_name : ℕ → List ℕ → Ground → Bool
is_name n is (named m js) = (m == n) && same_numbers js is
is_name n is t = false

-- the arguments are a message and the name
abbrev pub is_keyed_by : ℕ → List ℕ → Grounds → Bool
is_keyed_by n is (more t (more u none)) = is_name n is u
is_keyed_by n is ts = false

-- the name is the only argument
abbrev pub is_only_name : ℕ → List ℕ → Grounds → Bool
is_only_name n is (more t none) = is_name n is t
is_only_name n is ts = false

abbrev pub first_of_all : Grounds → Ground
first_of_all none = atom 0
first_of_all (more t ts) = t

-- the roles of the name's occurrences, in preorder; `side` says that the term is an argument of
-- `eq`
module _ (funs : List FunDecl) (n : ℕ) (is : List ℕ) where
  abbrev mutual
    pub occurrences : Bool → Ground → List Role
    occurrences side (named m js) = if is_name n is (named m js) then bare ∷ [] else []
    occurrences side (applied f js ts) =
        if is_keyed (function_role funs f) && is_keyed_by n is ts
        then key f (first_of_all ts) (side && is_hash (function_role funs f))
        ∷ occurrences_in_first ts
        else (if is_pk (function_role funs f) && is_only_name n is ts
        then public ∷ []
        else occurrences_in_all (is_equality f) ts)
    occurrences side (atom k) = []

    pub occurrences_in_first : Grounds → List Role
    occurrences_in_first none = []
    occurrences_in_first (more t ts) = occurrences false t

    pub occurrences_in_all : Bool → Grounds → List Role
    occurrences_in_all side none = []
    occurrences_in_all side (more t ts) = occurrences side t ++ occurrences_in_all side ts

-- the name does not occur in the term
abbrev pub IsAbsent : List FunDecl → ℕ → List ℕ → Ground → Type 0
IsAbsent funs n is t = occurrences funs n is false t ≡ []

-- no atom stands in the term
abbrev mutual
  pub holds_no_atom : Ground → Bool
  holds_no_atom (named n is) = true
  holds_no_atom (applied f is ts) = hold_no_atom ts
  holds_no_atom (atom k) = false

  pub hold_no_atom : Grounds → Bool
  hold_no_atom none = true
  hold_no_atom (more t ts) = holds_no_atom t && hold_no_atom ts
