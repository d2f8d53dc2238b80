-- Roles of a name's occurrences in small ground terms.
use Rattle.std.proofs.Common.{◌≡◌, refl, List, [], ◌∷◌, true, false}
use Rattle.sq_base.specs.declared.sort.Sort.TheVariants.{Message, Boolean}
use Rattle.sq_term.specs.declared.signature.FunDecl.{FunDecl}
use Rattle.sq_term.specs.declared.signature.FunRole.TheVariants.{Hash, Sign, Check, Pk}
use Rattle.sq_term.specs.Symbols.{declared}
use Rattle.sq_term.specs.Ground.{Ground, named, atom}
use Rattle.sq_term.specs.GroundFormulas.{unary, binary, ternary, equal, pair, empty}
use Rattle.sq_term.specs.Signatures.{no_function}
use Rattle.sq_term.specs.GroundOccurrences.{Role, bare, public, key, occurrences, holds_no_atom}

-- the built-in functions, then hash h and signature sign, checksign, pk
abbrev pub functions : List FunDecl
functions =
    no_function ∷ no_function ∷ no_function ∷ no_function ∷ no_function ∷ no_function ∷ no_function
    ∷ no_function ∷ no_function ∷ no_function ∷ no_function ∷ no_function ∷ no_function ∷
    no_function
    ∷ record { idx = 0; args = 2; result = Message; role = Hash }
    ∷ record { idx = 0; args = 2; result = Message; role = Sign }
    ∷ record { idx = 0; args = 3; result = Boolean; role = Check }
    ∷ record { idx = 0; args = 1; result = Message; role = Pk }
    ∷ []

abbrev roles : Ground → List Role
roles t = occurrences functions 0 (3 ∷ []) false t

abbrev k : Ground
k = named 0 (3 ∷ [])

in_itself : roles k ≡ bare ∷ []
in_itself = refl

other_numbers : roles (named 0 (4 ∷ [])) ≡ []
other_numbers = refl

hash_key : roles (binary (declared 0) empty k) ≡ key (declared 0) empty false ∷ []
hash_key = refl

hashed_key : roles (binary (declared 0) k k) ≡ key (declared 0) k false ∷ bare ∷ []
hashed_key = refl

test : roles (equal (named 1 []) (binary (declared 0) (named 2 []) k))
    ≡ key (declared 0) (named 2 []) true ∷ []
test = refl

no_test_inside : roles (equal (named 1 []) (pair (binary (declared 0) (named 2 []) k) k))
    ≡ key (declared 0) (named 2 []) false ∷ bare ∷ []
no_test_inside = refl

signature_is_no_test : roles (equal (named 1 []) (binary (declared 1) (named 2 []) k))
    ≡ key (declared 1) (named 2 []) false ∷ []
signature_is_no_test = refl

public_key : roles (ternary (declared 2) (named 1 []) (named 2 []) (unary (declared 3) k))
    ≡ public ∷ []
public_key = refl

an_atom : holds_no_atom (pair empty (atom 0)) ≡ false
an_atom = refl
