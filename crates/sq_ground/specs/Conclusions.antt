-- The formulas and pairs that rules conclude.
use Rattle.std.specs.Prelude.{ℕ, suc, List, [], ◌∷◌, map, Bool}
use Rattle.sq_term.specs.declared.signature.FunDecl.{FunDecl}
use Rattle.sq_term.specs.Symbols.{Kind, declared}
use Rattle.sq_term.specs.Ground.{Ground, named, applied, Grounds, none, more, ground_row}
use Rattle.sq_term.specs.GroundFormulas.{implies, equal, conditional, conj, disj}
use Rattle.sq_term.specs.Builtins.{takes_boolean}
use Rattle.sq_term.specs.Signatures.{is_boolean_function}
use Rattle.sq_ground.specs.Lines.{Pair, Line, equiv, alike, with_component}
use Rattle.sq_ground.specs.Searches.{messages, untested_messages, occurrences_among, filled}

abbrev pub count_grounds : Grounds → ℕ
count_grounds none = 0
count_grounds (more t ts) = suc (count_grounds ts)

-- the arguments are alike, from argument k of f on
abbrev pub alike_arguments : Kind → ℕ → Grounds → Grounds → List Ground
alike_arguments f k (more u us) (more v vs) =
    alike (takes_boolean f k) u v ∷ alike_arguments f (suc k) us vs
alike_arguments f k us vs = []

-- where the arguments are alike, f of them is
abbrev pub congruence : List FunDecl → Kind → List ℕ → Grounds → Grounds → Ground
congruence funs f is us vs =
    implies (conj (alike_arguments f 0 us vs))
    (alike (is_boolean_function funs f) (applied f is us) (applied f is vs))

-- f(m,k), of a function without indices
abbrev pub keyed : Kind → Ground → Ground → Ground
keyed f m k = applied f [] (more m (more k none))

-- checksign(m,s,p) and pk(k) of the signature whose first function is the declared one with this
-- number
abbrev pub checked : ℕ → Ground → Ground → Ground → Ground
checked f m s p = applied (declared (suc f)) [] (more m (more s (more p none)))

abbrev pub public_key : ℕ → Ground → Ground
public_key f k = applied (declared (suc (suc f))) [] (more k none)

-- m is one of these, each of which stands once
abbrev pub one_of : Ground → List Ground → Ground
one_of m ms = disj (map (equal m) ms)

-- where s is the hash of m under the name, m is hashed under it in s or m, and that is no test
abbrev pub hashed_before : List FunDecl → Kind → Ground → Ground → ℕ → List ℕ → Ground
hashed_before funs h s m n is =
    implies (equal s (keyed h m (named n is)))
    (one_of m (untested_messages (occurrences_among funs n is (s ∷ m ∷ []))))

-- where s is accepted as a signature of m under the name, m is signed under it in s or m
abbrev pub signed_before : List FunDecl → ℕ → Ground → Ground → ℕ → List ℕ → Ground
signed_before funs f s m n is =
    implies (checked f m s (public_key f (named n is)))
    (one_of m (messages (occurrences_among funs n is (s ∷ m ∷ []))))

-- the pairs' arguments under a function
abbrev pub application : Kind → List ℕ → List Pair → Pair
application f is ps =
    record {
      left = applied f is (ground_row (map (λ p. p.left) ps));
      right = applied f is (ground_row (map (λ p. p.right) ps));
    }

-- the conditional of pairs, side by side
abbrev pub branches : Pair → Pair → Pair → Pair
branches b u v =
    record { left = conditional b.left u.left v.left; right = conditional b.right u.right v.right }

-- t's hash, unless t is one of the messages: then the name
abbrev pub hash_or_name : Kind → Ground → Ground → List Ground → Ground → Ground
hash_or_name h t k ms name = conditional (one_of t ms) (keyed h t k) name

-- the pairs with this term in the holes of one side
abbrev pub in_contexts : Bool → List Pair → Ground → Line
in_contexts left contexts t = equiv (map (with_component left (filled t)) contexts)
