-- For each rule a line that follows by it and one that it refuses.
use Rattle.std.proofs.Common.{◌≡◌, refl, sym, ◌∙◌, ℕ, List, [], ◌∷◌, Bool, true, false, arith}
use Rattle.std.specs.Prelude.{if◌then◌else◌}
use Rattle.sq_base.specs.declared.sort.Sort.TheVariants.{Message, Boolean}
use Rattle.sq_term.specs.declared.signature.FunDecl.{FunDecl}
use Rattle.sq_term.specs.declared.signature.FunRole.TheVariants.{Hash, Sign, Check, Pk}
use Rattle.sq_term.specs.Lists.{Member, here, there, Each}
use Rattle.sq_term.specs.Symbols as kind
use Rattle.sq_term.specs.Symbols.{Kind, declared}
use Rattle.sq_term.specs.Ground.{Ground, named, atom, none, more}
use Rattle.sq_term.specs.GroundFormulas as the
use Rattle.sq_term.specs.GroundFormulas.{falsity, truth, negation, implies, equivalent, equal}
use Rattle.sq_term.specs.GroundFormulas.{conditional, pair, first, second, of_bool, empty}
use Rattle.sq_term.specs.Signatures.{no_function, is_signature}
use Rattle.sq_term.specs.GroundOccurrences.{IsAbsent}
use Rattle.sq_term.proofs.Members.{each_none, each_single, each_pair}
use Rattle.sq_ground.specs.Truth.{IsTrueAt}
use Rattle.sq_ground.specs.Lines.{Pair, Line, local, equiv, fact, Entails}
use Rattle.sq_ground.specs.Replaced.{whole, PairsReplaced}
use Rattle.sq_ground.specs.Searches.{IsPseudorandom, IsKeyOf, IsKeyOrPublic, HoldsNoAtom}
use Rattle.sq_ground.specs.Searches.{occurrences_among}
use Rattle.sq_ground.specs.Conclusions.{count_grounds, keyed, checked, public_key}
use Rattle.sq_ground.specs.Rules.{Rule, FollowsBy, G1, G2, G3, G4, G5, G6, G7, G8, G9, G10, G11}
use Rattle.sq_ground.specs.Rules.{G12, G13, G14, G15, G16, G17}
use Rattle.sq_ground.proofs.Propositional.{claim}

-- the built-in functions, then hash h and signature sign, checksign, pk
abbrev functions : List FunDecl
functions =
    no_function ∷ no_function ∷ no_function ∷ no_function ∷ no_function ∷ no_function ∷ no_function
    ∷ no_function ∷ no_function ∷ no_function ∷ no_function ∷ no_function ∷ no_function ∷
    no_function
    ∷ record { idx = 0; args = 2; result = Message; role = Hash }
    ∷ record { idx = 0; args = 2; result = Message; role = Sign }
    ∷ record { idx = 0; args = 3; result = Boolean; role = Check }
    ∷ record { idx = 0; args = 1; result = Message; role = Pk }
    ∷ []

abbrev a : Ground
a = named 0 []

abbrev b : Ground
b = named 1 []

abbrev k : Ground
k = named 2 []

-- the one line of an axiom
abbrev an_axiom : Line
an_axiom = fact true (equal b b)

abbrev By : Rule → List Line → Line → Type 0
By rule cited l = FollowsBy functions (an_axiom ∷ []) rule cited l

abbrev h_of : Ground → Ground → Ground
h_of m x = keyed (declared 0) m x

abbrev both : Ground → Ground → Pair
both u v = record { left = u; right = v }

differ : true ≡ false → ⊥
differ e = let f : true ≡ false = e in cc

-- g1: a && b gives b; it does not follow from nothing
g1 : By G1 (local true (claim [] (the.both a b)) ∷ []) (local true (claim [] b))
g1 = FollowsBy.by_truth true (claim [] (the.both a b) ∷ []) (claim [] b)
    (λ v e i. second_of (v a) (v b) (e (claim [] (the.both a b)) here (each_none (IsTrueAt v))))
  where
    second_of : (x y : Bool) → (if x then y else false) ≡ true → y ≡ true
    second_of true y h = h
    second_of false y h = let f : false ≡ true = h in cc

g1_refused : Entails [] (claim [] b) → ⊥
g1_refused e = differ (sym (e (λ t. false) (λ d i. elim i [ ]) (each_none (IsTrueAt (λ t. false)))))

-- it does not follow from the other side's line
g1_other_side : (cited : List Line) (l : Line) → By G1 cited l
    → cited ≡ local true (claim [] b) ∷ []
    → l ≡ local false (claim [] b) → ⊥
g1_other_side cited l (FollowsBy.by_truth left [] c e) p q = let f = p in cc
g1_other_side cited l (FollowsBy.by_truth left (d ∷ ds) c e) p q =
    let f : local left d ≡ local true (claim [] b) = cc in
    let g : left ≡ true = cc in
    let h : left ≡ false = cc in
    differ (sym g ∙ h)

-- g2
g2 : By G2 [] (fact false (equal a a))
g2 = FollowsBy.reflexive false a

g2_refused : (u : Ground) → equal u u ≡ equal a b → ⊥
g2_refused u e = let f : a ≡ u = cc in let g : b ≡ u = cc in let c : named 0 [] ≡ named 1 [] =
    f ∙ sym g in cc

-- g3: messages by `=`, Booleans by `iff`
g3 : By G3 [] (fact true (implies (the.both (equal a b) (equal k k)) (equal (pair a k) (pair b k))))
g3 = FollowsBy.congruent true kind.pairing [] (more a (more k none)) (more b (more k none)) refl

g3_boolean
    : By G3 []
    (fact true
    (implies (equivalent (equal a b) (equal b a))
    (equivalent (negation (equal a b)) (negation (equal b a)))))
g3_boolean =
    FollowsBy.congruent true kind.negation [] (more (equal a b) none) (more (equal b a) none) refl

g3_refused : count_grounds none ≡ count_grounds (more a none) → ⊥
g3_refused e = let f : ◌≡◌ {A = ℕ} 0 1 = e in omega arith

-- g4
g4 : By G4 [] (fact true (implies (equal a b) (equal (conditional (equal a b) a b) a)))
g4 = FollowsBy.when_true true (equal a b) a b

g4_not : By G4 []
    (fact true (implies (negation (equal a b)) (equal (conditional (equal a b) a b) b)))
g4_not = FollowsBy.when_false true (equal a b) a b

g4_refused : (c u v : Ground) → implies c (equal (conditional c u v) u)
    ≡ implies k (equal (conditional k a b) b) → ⊥
g4_refused c u v e = let f : u ≡ a = cc in let g : u ≡ b = cc in let h : named 0 [] ≡ named 1 [] =
    sym f ∙ g in cc

-- g5
g5_first : By G5 [] (fact true (equal (first (pair a b)) a))
g5_first = FollowsBy.first_of_pair true a b

g5_second : By G5 [] (fact true (equal (second (pair a b)) b))
g5_second = FollowsBy.second_of_pair true a b

g5_signature : By G5 [] (fact true (checked 1 a (keyed (declared 1) a k) (public_key 1 k)))
g5_signature = FollowsBy.signed_checks true 1 a k refl

g5_boolean : By G5 [] (fact true (equivalent (equal (of_bool a) (of_bool truth)) a))
g5_boolean = FollowsBy.boolean_message true a

g5_refused : (u v : Ground) → equal (first (pair u v)) u ≡ equal (first (pair a b)) b → ⊥
g5_refused u v e = let f : u ≡ a = cc in let g : u ≡ b = cc in let h : named 0 [] ≡ named 1 [] =
    sym f ∙ g in cc

g5_no_signature : is_signature functions 0 ≡ true → ⊥
g5_no_signature e = differ (sym e)

-- g6: not where the name occurs, nor where an atom stands
g6 : By G6 [] (fact true (negation (equal a (pair b k))))
g6 = FollowsBy.fresh_name true 0 [] (pair b k) refl refl

g6_refused : IsAbsent functions 0 [] (pair b a) → ⊥
g6_refused e = let f = e in cc

g6_atom : HoldsNoAtom (pair b (atom 0)) → ⊥
g6_atom e = differ (sym e)

-- g7: the message of the one other hash; the test gives no disjunct
g7 : By G7 [] (fact true (implies (equal (h_of a k) (h_of b k)) (equal b a)))
g7 = FollowsBy.hash_unforgeable true (declared 0) (h_of a k) b 2 [] refl
    (each_pair (h_of a k) b HoldsNoAtom refl refl) (each_single _ (IsKeyOf (declared 0)) refl)

g7_test : By G7 [] (fact true (implies (equal (of_bool (equal a (h_of a k))) (h_of b k)) falsity))
g7_test =
    FollowsBy.hash_unforgeable true (declared 0) (of_bool (equal a (h_of a k))) b 2 [] refl
    (each_pair (of_bool (equal a (h_of a k))) b HoldsNoAtom refl refl)
    (each_single _ (IsKeyOf (declared 0)) refl)

g7_refused : Each (IsKeyOf (declared 0)) (occurrences_among functions 2 [] (k ∷ b ∷ [])) → ⊥
g7_refused e = e _ here

-- g8
g8 : By G8 []
    (fact true
    (implies (checked 1 b (pair (keyed (declared 1) a k) (public_key 1 k)) (public_key 1 k))
    (equal b a)))
g8 = FollowsBy.signature_unforgeable true 1 b
    (pair (keyed (declared 1) a k) (public_key 1 k)) 2 [] refl
    (each_pair (pair (keyed (declared 1) a k) (public_key 1 k)) b HoldsNoAtom refl refl)
    (each_pair _ _ (IsKeyOrPublic (declared 1)) refl tt)

g8_refused
    : Each (IsKeyOrPublic (declared 1)) (occurrences_among functions 2 [] (h_of a k ∷ b ∷ [])) → ⊥
g8_refused e = let f : declared 0 ≡ declared 1 = e _ here in cc

-- g9
g9 : By G9 [] (fact true (implies (equal (h_of a k) (h_of b k)) (equal a b)))
g9 = FollowsBy.collision_free true (declared 0) a b 2 [] refl (each_pair a b HoldsNoAtom refl refl)
    (each_none (IsKeyOf (declared 0)))

g9_refused : Each (IsKeyOf (declared 0)) (occurrences_among functions 2 [] (a ∷ pair b k ∷ [])) → ⊥
g9_refused e = e _ here

-- g10: the axiom's line; no other line is an axiom
g10 : By G10 [] an_axiom
g10 = FollowsBy.axiom_line an_axiom here

g10_refused : Member (an_axiom ∷ []) (fact false (equal b b)) → ⊥
g10_refused (there i) = elim i [ ]

-- g11
g11 : By G11 [] (equiv (both a a ∷ []))
g11 = FollowsBy.same_sides (both a a ∷ []) (each_single (both a a) (λ p. p.left ≡ p.right) refl)

g11_refused : Each (λ p. p.left ≡ p.right) (both a b ∷ []) → ⊥
g11_refused e = let f : named 0 [] ≡ named 1 [] = e _ here in cc

-- g12
g12 : By G12 (equiv (both a b ∷ both b a ∷ []) ∷ []) (equiv (both b a ∷ both b a ∷ []))
g12 = FollowsBy.part_of (both a b ∷ both b a ∷ []) (both b a ∷ both b a ∷ [])
    (each_pair (both b a) (both b a) (Member (both a b ∷ both b a ∷ [])) (there here) (there here))

g12_refused : Each (Member (both a b ∷ [])) (both b a ∷ []) → ⊥
g12_refused e = at (e _ here)
  where
    at : Member (both a b ∷ []) (both b a) → ⊥
    at (there i) = elim i [ ]

-- g13, also of a function without arguments
g13 : By G13 (equiv (both k k ∷ both a b ∷ both b a ∷ []) ∷ [])
    (equiv (both k k ∷ both (pair a b) (pair b a) ∷ []))
g13 = FollowsBy.applied_to kind.pairing [] (both k k ∷ []) (both a b ∷ both b a ∷ []) []

g13_constant : By G13 (equiv (both k k ∷ []) ∷ []) (equiv (both k k ∷ both empty empty ∷ []))
g13_constant = FollowsBy.applied_to kind.empty [] (both k k ∷ []) [] []

-- g14 on the left side, by an equation of that side; not where the other side changes
g14 : By G14 (equiv (both a k ∷ []) ∷ fact true (equal b a) ∷ []) (equiv (both b k ∷ []))
g14 = FollowsBy.equals_replaced true false b a (both a k ∷ []) (both b k ∷ []) ((whole, refl), tt)

g14_refused : PairsReplaced true a b (both k a ∷ []) (both k b ∷ []) → ⊥
g14_refused p = let f : named 0 [] ≡ named 1 [] = p.0.1 in cc

-- g15
g15 : By G15 (equiv (both k k ∷ []) ∷ []) (equiv (both a b ∷ both k k ∷ []))
g15 = FollowsBy.fresh_names 0 1 [] [] [] (both k k ∷ [])
    (each_single (both k k) (λ p. HoldsNoAtom p.left × IsAbsent functions 0 [] p.left) (refl, refl))
    (each_single (both k k) (λ p. HoldsNoAtom p.right × IsAbsent functions 1 [] p.right)
    (refl, refl))

g15_refused : IsAbsent functions 0 [] (h_of a k) → ⊥
g15_refused e = let f = e in cc

-- g16
g16 : By G16 (equiv (both k k ∷ both a a ∷ []) ∷ equiv (both k k ∷ both b b ∷ []) ∷ [])
    (equiv (both k k ∷ both (conditional k a b) (conditional k a b) ∷ []))
g16 = FollowsBy.cases_of_test (both k k) (both a a) (both b b) (both k k ∷ []) [] here here

g16_refused : Member (both b b ∷ both a a ∷ []) (both k k) → ⊥
g16_refused (there (there i)) = elim i [ ]

-- g17: a lone hash is like a fresh name; not where the list lacks a message that is hashed
abbrev lone : IsPseudorandom functions (declared 0) 2 [] 0 [] (atom 0 ∷ []) b []
lone = record {
  is_a_hash = refl;
  has_hole = (atom 0, here, refl);
  no_atoms = each_single b HoldsNoAtom refl;
  holes_outside = each_none HoldsNoAtom;
  only_as_key = each_none (IsKeyOf (declared 0));
  is_complete = each_none (Member []);
  is_another_name = refl;
  is_absent = each_pair (atom 0) b (IsAbsent functions 0 []) refl refl;
}

g17 : By G17 (equiv (both (conditional falsity (h_of b k) a) k ∷ []) ∷ [])
    (equiv (both (h_of b k) k ∷ []))
g17 = FollowsBy.pseudorandom true (declared 0) b 2 [] 0 [] [] (both (atom 0) k ∷ []) lone

g17_refused : IsPseudorandom functions (declared 0) 2 [] 0 []
    (pair (atom 0) (h_of k (named 3 [])) ∷ h_of b k ∷ []) b [] → ⊥
g17_refused p = elim (p.is_complete b here) [ ]

g17_hole_inside : IsPseudorandom functions (declared 0) 2 [] 0 [] (h_of (atom 0) k ∷ []) b [] → ⊥
g17_hole_inside p = differ (sym (p.holes_outside (atom 0) here))
