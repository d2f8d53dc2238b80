-- What a find is: the value of the first indices that pass its test, or its last part where none
-- do.
use Rattle.std.proofs.Common.{◌≡◌, ◌⊎◌, inl, inr, subst, ℕ, zero, suc, List, [], ◌∷◌, ◌++◌, map}
use Rattle.std.proofs.Common.{Bool, true}
use Rattle.sq_base.specs.declared.sort.Sort.TheVariants.{Index}
use Rattle.sq_term.specs.declared.model.Value.{Value}
use Rattle.sq_term.specs.Closed.{is_closed}
use Rattle.sq_term.specs.Lists.{Member, here, there, Each, fold_right}
use Rattle.sq_term.proofs.Members.{each_none, each_single, each-map, each-flat_map, member-map}
use Rattle.sq_term.proofs.Members.{member-flat_map, member-append_left, member-append_right}
use Rattle.sq_term.specs.Syntax.{TermTree, find}
use Rattle.sq_term.specs.Ground.{Ground}
use Rattle.sq_term.specs.Formulas as formula
use Rattle.sq_term.specs.Formulas.{both}
use Rattle.sq_term.specs.GroundFormulas.{negation, implies, equal, conditional}
use Rattle.sq_term.specs.Translate.{World, Assignment, domain, choices, translate}
use Rattle.sq_subst.proofs.Laws.{free_term}
use Rattle.sq_ground.specs.Truth.{IsTrueAt}
use Rattle.sq_ground.specs.Rules.{FollowsBy}
use Rattle.sq_ground.specs.Theories.{Theory, world_at}
use Rattle.sq_ground.proofs.Derivations.{derive_outright}
use Rattle.sq_ground.proofs.Propositional.{claim, Proved, by_one, conj-from, disj-from, if_to}
use Rattle.sq_ground.proofs.Propositional.{and_from, or_left, or_right}
use Rattle.sq_ground.proofs.Propositional as ground_rule
use Rattle.sq_formula.specs.Facts.{all_indices, some_indices, find_fact}
use Rattle.sq_rules_logic.proofs.EqualityRules as equals

module _ (w : World) (a : Assignment) (B : TermTree) (v : Ground → Bool) where
  abbrev Holds : List Value → Type 0
  Holds xs = IsTrueAt v (translate w a xs B)

  some-true : (n : ℕ) (bs : List Value)
      → Each (λ xs. Holds xs → IsTrueAt v (translate w a bs (some_indices n B)))
      (choices w.times n bs)
  some-true zero bs = each_single bs (λ xs. Holds xs → IsTrueAt v (translate w a bs B)) (λ h. h)
  some-true (suc n) bs =
      each-flat_map (λ x. choices w.times n (x ∷ bs)) (domain w.times Index)
      (λ xs. Holds xs → IsTrueAt v (translate w a bs (some_indices (suc n) B)))
      (λ x i xs j h. disj-from v (map (λ y. translate w a (y ∷ bs) (some_indices n B))
      (domain w.times Index)) (translate w a (x ∷ bs) (some_indices n B))
      (member-map (λ y. translate w a (y ∷ bs) (some_indices n B)) (domain w.times Index) x i)
      (some-true n (x ∷ bs) xs j h))

  all-true : (n : ℕ) (bs : List Value) → Each Holds (choices w.times n bs)
      → IsTrueAt v (translate w a bs (all_indices n B))
  all-true zero bs h = h bs here
  all-true (suc n) bs h =
      conj-from v (map (λ y. translate w a (y ∷ bs) (all_indices n B)) (domain w.times Index))
      (each-map (λ y. translate w a (y ∷ bs) (all_indices n B)) (domain w.times Index) (IsTrueAt v)
      (λ x i. all-true n (x ∷ bs) (λ xs j. h xs
      (member-flat_map (λ y. choices w.times n (y ∷ bs)) (domain w.times Index) x xs i j))))

module _ (th : Theory) (left : Bool) (a : Assignment) (c : ℕ) (F u v : TermTree)
    (closed : is_closed 0 (find c F u v) ≡ true) where
  abbrev w : World
  w = world_at th left

  abbrev at : List Value → TermTree → Ground
  at xs t = translate w a xs t

  abbrev test : List Value → Ground
  test xs = at xs F

  abbrev untrue : List Value → Ground
  untrue xs = negation (test xs)

  abbrev lists : List (List Value)
  lists = choices w.times c []

  -- the find from one of its choices on
  abbrev from : List (List Value) → Ground
  from rest = fold_right (λ xs other. conditional (test xs) (at xs u) other) (at [] v) rest

  abbrev whole : Ground
  whole = at [] (find c F u v)

  abbrev known : Ground
  known = at [] (find_fact (find c F u v) c F u v)

  last : (H : List Ground) (x : Ground) → Member (H ++ x ∷ []) x
  last H x = member-append_right H (x ∷ []) x here

  more : (H : List Ground) (x g : Ground) → Proved th left H g → Proved th left (H ++ x ∷ []) g
  more H x g p = ground_rule.drop th left H (H ++ x ∷ []) g
      (λ y i. member-append_left H (x ∷ []) y i) p

  passed : (H : List Ground) (xs : List Value) (rest : List (List Value))
      → Proved th left (H ++ test xs ∷ []) (equal (from (xs ∷ rest)) (at xs u))
  passed H xs rest =
      by_one th left (claim [] (implies (test xs) (equal (from (xs ∷ rest)) (at xs u))))
      (claim (H ++ test xs ∷ []) (equal (from (xs ∷ rest)) (at xs u)))
      (derive_outright th _ (FollowsBy.when_true left (test xs) (at xs u) (from rest)))
      (λ y f h. if_to _ _ (f (each_none (IsTrueAt y))) (h (test xs) (last H (test xs))))

  failed : (H : List Ground) (xs : List Value) (rest : List (List Value))
      → Proved th left (H ++ untrue xs ∷ []) (equal (from (xs ∷ rest)) (from rest))
  failed H xs rest =
      by_one th left (claim [] (implies (untrue xs) (equal (from (xs ∷ rest)) (from rest))))
      (claim (H ++ untrue xs ∷ []) (equal (from (xs ∷ rest)) (from rest)))
      (derive_outright th _ (FollowsBy.when_false left (test xs) (at xs u) (from rest)))
      (λ y f h. if_to _ _ (f (each_none (IsTrueAt y))) (h (untrue xs) (last H (untrue xs))))

  same-below : (y : Ground → Bool) (xs : List Value) → IsTrueAt y (equal whole (at xs u))
      → IsTrueAt y (at xs (formula.equal (find c F u v) u))
  same-below y xs h = subst (λ z. IsTrueAt y (equal z (at xs u)))
      (free_term w a [] xs (find c F u v) closed) h

  -- at indices that pass
  found : (H : List Ground) (xs : List Value) (rest : List (List Value)) → Member lists xs
      → Proved th left H (equal whole (from (xs ∷ rest))) → Proved th left (H ++ test xs ∷ []) known
  found H xs rest i p =
      by_one th left (claim (H ++ test xs ∷ []) (equal whole (at xs u)))
      (claim (H ++ test xs ∷ []) known)
      (equals.transitive th left (H ++ test xs ∷ []) whole (from (xs ∷ rest)) (at xs u)
      (more H (test xs) (equal whole (from (xs ∷ rest))) p) (passed H xs rest))
      (λ y f h. or_left _ _ (some-true w a (both F (formula.equal (find c F u v) u)) y c [] xs i
      (and_from _ _ (h (test xs) (last H (test xs))) (same-below y xs (f h)))))

  -- each choice is still to come, or is known to fail
  abbrev Seen : List Ground → List (List Value) → List Value → Type 0
  Seen H rest xs = Member rest xs ⊎ Member H (untrue xs)

  also-seen : (H : List Ground) (x : List Value) (rest : List (List Value)) (xs : List Value)
      → Seen H (x ∷ rest) xs → Seen (H ++ untrue x ∷ []) rest xs
  also-seen H x rest xs (inl here) = inr (last H (untrue x))
  also-seen H x rest xs (inl (there i)) = inl i
  also-seen H x rest xs (inr i) = inr (member-append_left H (untrue x ∷ []) (untrue xs) i)

  fails : (H : List Ground) (y : Ground → Bool) → Each (IsTrueAt y) H → (xs : List Value)
      → Seen H [] xs → IsTrueAt y (untrue xs)
  fails H y h xs (inl i) = elim i [ ]
  fails H y h xs (inr i) = h (untrue xs) i

  goes : (rest : List (List Value)) (H : List Ground) → Each (Member lists) rest
      → Each (Seen H rest) lists → Proved th left H (equal whole (from rest))
      → Proved th left H known
  goes [] H sub seen p =
      by_one th left (claim H (equal whole (at [] v))) (claim H known) p
      (λ y f h. or_right _ _ (and_from _ _
      (all-true w a (formula.negation F) y c [] (λ xs i. fails H y h xs (seen xs i))) (f h)))
  goes (x ∷ rest) H sub seen p =
      ground_rule.em th left H (test x) known (found H x rest (sub x here) p)
      (goes rest (H ++ untrue x ∷ []) (λ xs i. sub xs (there i))
      (λ xs i. also-seen H x rest xs (seen xs i))
      (equals.transitive th left (H ++ untrue x ∷ []) whole (from (x ∷ rest)) (from rest)
      (more H (untrue x) (equal whole (from (x ∷ rest))) p) (failed H x rest)))

  pub find-known : Proved th left [] known
  find-known = goes lists [] (λ xs i. i) (λ xs i. inl i) (equals.reflexive th left [] whole)
