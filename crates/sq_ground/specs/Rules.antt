-- The seventeen ground rules.
use Rattle.std.specs.Prelude.{◌≡◌, ℕ, List, [], ◌∷◌, ◌++◌, map, Bool, true}
use Rattle.sq_term.specs.declared.signature.FunDecl.{FunDecl}
use Rattle.sq_term.specs.Lists.{Member, Each}
use Rattle.sq_term.specs.Symbols.{Kind, declared}
use Rattle.sq_term.specs.Ground.{Ground, named, Grounds}
use Rattle.sq_term.specs.GroundFormulas.{negation, implies, equal, equivalent, truth, conditional}
use Rattle.sq_term.specs.GroundFormulas.{pair, first, second, of_bool}
use Rattle.sq_term.specs.Signatures.{function_role, is_hash, is_signature}
use Rattle.sq_term.specs.GroundOccurrences.{IsAbsent}
use Rattle.sq_ground.specs.Lines.{Claim, Pair, Line, local, equiv, fact, Entails, alike, component}
use Rattle.sq_ground.specs.Replaced.{PairsReplaced}
use Rattle.sq_ground.specs.Searches.{IsKeyOf, IsKeyOrPublic, occurrences_among, HoldsNoAtom}
use Rattle.sq_ground.specs.Searches.{IsPseudorandom}
use Rattle.sq_ground.specs.Conclusions as the

pub data Rule : Type 0 where
  G1 G2 G3 G4 G5 G6 G7 G8 G9 G10 G11 G12 G13 G14 G15 G16 G17 : Rule

-- A line follows by a rule from the lines that it cites, in this order. Rules read the functions,
-- and lines that are instances of axioms.
pub data FollowsBy (funs : List FunDecl) (axioms : List Line) : Rule → List Line → Line
    → Type 0 where
  -- what the truth tables make of the cited lines
  by_truth : (left : Bool) (cited : List Claim) (c : Claim) → Entails cited c
      → FollowsBy funs axioms G1 (map (local left) cited) (local left c)
  -- equality, also of Booleans by `equivalent`
  reflexive : (left : Bool) (u : Ground) → FollowsBy funs axioms G2 [] (fact left (equal u u))
  congruent : (left : Bool) (f : Kind) (is : List ℕ) (us vs : Grounds)
      → the.count_grounds us ≡ the.count_grounds vs
      → FollowsBy funs axioms G3 [] (fact left (the.congruence funs f is us vs))
  -- the conditional
  when_true : (left : Bool) (b u v : Ground)
      → FollowsBy funs axioms G4 [] (fact left (implies b (equal (conditional b u v) u)))
  when_false : (left : Bool) (b u v : Ground)
      → FollowsBy funs axioms G4 [] (fact left (implies (negation b) (equal (conditional b u v) v)))
  -- pairs, signatures, and Booleans as messages
  first_of_pair : (left : Bool) (u v : Ground)
      → FollowsBy funs axioms G5 [] (fact left (equal (first (pair u v)) u))
  second_of_pair : (left : Bool) (u v : Ground)
      → FollowsBy funs axioms G5 [] (fact left (equal (second (pair u v)) v))
  signed_checks : (left : Bool) (f : ℕ) (m k : Ground) → is_signature funs f ≡ true
      → FollowsBy funs axioms G5 []
      (fact left (the.checked f m (the.keyed (declared f) m k) (the.public_key f k)))
  boolean_message : (left : Bool) (b : Ground)
      → FollowsBy funs axioms G5 [] (fact left (equivalent (equal (of_bool b) (of_bool truth)) b))
  -- a name is no term in which it does not occur
  fresh_name : (left : Bool) (n : ℕ) (is : List ℕ) (t : Ground) → HoldsNoAtom t
      → IsAbsent funs n is t
      → FollowsBy funs axioms G6 [] (fact left (negation (equal (named n is) t)))
  -- a hash under a key that serves for this hash alone is one of those in sight, tests left out
  hash_unforgeable : (left : Bool) (h : Kind) (s m : Ground) (n : ℕ) (is : List ℕ)
      → is_hash (function_role funs h) ≡ true → Each HoldsNoAtom (s ∷ m ∷ [])
      → Each (IsKeyOf h) (occurrences_among funs n is (s ∷ m ∷ []))
      → FollowsBy funs axioms G7 [] (fact left (the.hashed_before funs h s m n is))
  -- the same of a signature that is accepted
  signature_unforgeable : (left : Bool) (f : ℕ) (m s : Ground) (n : ℕ) (is : List ℕ)
      → is_signature funs f ≡ true → Each HoldsNoAtom (s ∷ m ∷ [])
      → Each (IsKeyOrPublic (declared f)) (occurrences_among funs n is (s ∷ m ∷ []))
      → FollowsBy funs axioms G8 [] (fact left (the.signed_before funs f s m n is))
  -- hashes collide only on equal messages
  collision_free : (left : Bool) (h : Kind) (m m' : Ground) (n : ℕ) (is : List ℕ)
      → is_hash (function_role funs h) ≡ true → Each HoldsNoAtom (m ∷ m' ∷ [])
      → Each (IsKeyOf h) (occurrences_among funs n is (m ∷ m' ∷ []))
      → FollowsBy funs axioms G9 []
      (fact left
      (implies (equal (the.keyed h m (named n is)) (the.keyed h m' (named n is))) (equal m m')))
  -- an axiom
  axiom_line : (l : Line) → Member axioms l → FollowsBy funs axioms G10 [] l
  -- equal sides; part of a line
  same_sides : (ps : List Pair) → Each (λ p. p.left ≡ p.right) ps
      → FollowsBy funs axioms G11 [] (equiv ps)
  part_of : (ps qs : List Pair) → Each (Member ps) qs
      → FollowsBy funs axioms G12 (equiv ps ∷ []) (equiv qs)
  -- a function of the pairs at one place
  applied_to : (f : Kind) (is : List ℕ) (before args after : List Pair)
      → FollowsBy funs axioms G13 (equiv (before ++ args ++ after) ∷ [])
      (equiv (before ++ the.application f is args ∷ after))
  -- on one side, some places of u' replaced by u, which is equal or equivalent to it
  equals_replaced : (left boolean : Bool) (u u' : Ground) (ps qs : List Pair)
      → PairsReplaced left u' u ps qs
      → FollowsBy funs axioms G14 (equiv ps ∷ fact left (alike boolean u u') ∷ []) (equiv qs)
  -- a pair of names that occur nowhere on their sides
  fresh_names : (n n' : ℕ) (is is' : List ℕ) (before after : List Pair)
      → Each (λ p. HoldsNoAtom p.left × IsAbsent funs n is p.left) (before ++ after)
      → Each (λ p. HoldsNoAtom p.right × IsAbsent funs n' is' p.right) (before ++ after)
      → FollowsBy funs axioms G15 (equiv (before ++ after) ∷ [])
      (equiv (before ++ record { left = named n is; right = named n' is' } ∷ after))
  -- the two cases of a test that both lines have
  cases_of_test : (b u v : Pair) (before after : List Pair)
      → Member (before ++ u ∷ after) b → Member (before ++ v ∷ after) b
      → FollowsBy funs axioms G16 (equiv (before ++ u ∷ after) ∷ equiv (before ++ v ∷ after) ∷ [])
      (equiv (before ++ the.branches b u v ∷ after))
  -- a hash of a message that is none of those in sight is like a fresh name
  pseudorandom : (left : Bool) (h : Kind) (t : Ground) (k : ℕ) (js : List ℕ) (n : ℕ) (is : List ℕ)
      (ms : List Ground) (contexts : List Pair)
      → IsPseudorandom funs h k js n is (map (component left) contexts) t ms
      → FollowsBy funs axioms G17
      (the.in_contexts left contexts (the.hash_or_name h t (named k js) ms (named n is)) ∷ [])
      (the.in_contexts left contexts (the.keyed h t (named k js)))
