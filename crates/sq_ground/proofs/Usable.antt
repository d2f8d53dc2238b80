-- What holds before an earlier goal holds before a later one that may use it; so the goals of a
-- file hold one after the other.
use Rattle.std.proofs.Common.{◌≡◌, refl, sym, ap, subst, ℕ, zero, suc, ◌+◌, ◌<◌, ◌≤◌, ◌⊎◌, ⊎_elim}
use Rattle.std.proofs.Common.{List, [], ◌∷◌, ◌++◌, Bool, true, false, arith}
use Rattle.std.specs.Prelude.{flat_map, get_or, ◌&&◌, ◌||◌, ◌==◌, nat_lt, if◌then◌else◌}
use Rattle.std.proofs.lemmas.Bool.{eqb-true}
use Rattle.std.proofs.lemmas.Bool.Decides.{nat_tests}
use Rattle.sq_term.specs.declared.model.Model.{Model}
use Rattle.sq_term.specs.Lists.{Member, here, there, Each, count}
use Rattle.sq_term.specs.Syntax.{TermTree}
use Rattle.sq_term.specs.Models.{IsTraceModel}
use Rattle.sq_term.specs.Translate.{Assignment}
use Rattle.sq_term.proofs.BoolTests.{and_split, and_both}
use Rattle.sq_term.proofs.Members.{member-append_left, member-append_right}
use Rattle.sq_system.specs.Sequents.{SequentTree, trace, local, equiv}
use Rattle.sq_base.specs.declared.sort.Sort.{Sort}
use Rattle.sq_system.specs.Statements.{EnvTree, no_actions}
use Rattle.sq_system.specs.Usable.{is_axiom, is_timeless_axiom, formula_of, statement_at, usable}
use Rattle.sq_system.specs.Usable.{usable_axioms, system_of}
use Rattle.sq_ground.specs.Lines.{Line}
use Rattle.sq_ground.specs.Theories.{Theory}
use Rattle.sq_ground.specs.Derivations.{IsInstance, Follows, IsDerivation, HasDerivation}
use Rattle.sq_ground.specs.Holding.{IsAssignment, HoldsAt, pairs_of}
use Rattle.sq_ground.specs.DerivationLaws.{with_axioms, KnowsNothing, IsClaimed, HoldsByEarlier}
use Rattle.sq_ground.specs.Goals.{theory_at, theory_of, HoldsEverywhere}

module _ (th : Theory) (axs : List TermTree) (sub : Each (Member axs) th.axioms) where
  more_instances : (l : Line) → IsInstance th l → IsInstance (with_axioms th axs) l
  more_instances l (IsInstance.instance left t ms i h) = IsInstance.instance left t ms (sub t i) h

  more_axioms : (es : List Line) (l : Line) → Follows th es l → Follows (with_axioms th axs) es l
  more_axioms es l f = record {
    axioms = f.axioms;
    are_instances = λ x i. more_instances x (f.are_instances x i);
    cited = f.cited;
    are_earlier = f.are_earlier;
    rule = f.rule;
    by_rule = f.by_rule;
  }

  derivation_stands : (ls : List Line) → IsDerivation th ls → IsDerivation (with_axioms th axs) ls
  derivation_stands [] d = tt
  derivation_stands (l ∷ ls) d = (more_axioms ls l d.0, derivation_stands ls d.1)

  pub still_derived : (l : Line) → HasDerivation th l → HasDerivation (with_axioms th axs) l
  still_derived l h = (h.0, derivation_stands (l ∷ h.0) h.1)

same_assignment : (th : Theory) (axs : List TermTree) (vars : List Sort) (a : Assignment)
    → IsAssignment (with_axioms th axs) vars a → IsAssignment th vars a
same_assignment th axs vars a h = record { values = h.values; messages = h.messages }

pub still_holds : (th : Theory) (axs : List TermTree) → Each (Member axs) th.axioms
    → (s : SequentTree) → KnowsNothing s → HoldsAt th s → HoldsAt (with_axioms th axs) s
still_holds th axs sub (trace vars hyps goal) n h = λ a f. h a (same_assignment th axs vars a f)
still_holds th axs sub (local side vars hyps goal) n h =
    λ a f left i. still_derived th axs sub _ (h a (same_assignment th axs vars a f) left i)
still_holds th axs sub (equiv vars hyps known items) n h =
    λ a f p q. still_derived th axs sub _ (h a (same_assignment th axs vars a f) p
    (subst (Each (λ list. HasDerivation th (pairs_of th a list))) (sym n) (λ x i. elim i [ ])))

-- numbers in a row
split : (x y : ℕ) → x ≤ y → (x ≡ y) ⊎ (suc x ≤ y)
split x y l = grind arith

count-member : (a n k : ℕ) → a ≤ k → k < a + n → Member (count a n) k
count-member a zero k h b = absurd (omega arith)
count-member a (suc n) k h b =
    ⊎_elim (λ s. subst (λ z. Member (a ∷ count (suc a) n) z) s here)
    (λ l. there (count-member (suc a) n k l (omega arith))) (split a k h)

member-count : (a n k : ℕ) → Member (count a n) k → k < a + n
member-count a zero k i = elim i [ ]
member-count a (suc n) k here = omega arith
member-count a (suc n) k (there i) = let b : k < suc a + n =
    member-count (suc a) n k i in omega arith

flat_map-from : {A B : Type 0} (f : A → List B) (xs : List A) (y : B) → Member (flat_map f xs) y
    → (x : A) × Member xs x × Member (f x) y
flat_map-from f [] y i = elim i [ ]
flat_map-from {A} {B = B} f (x ∷ xs) y i =
    at (f x) i (λ j. (x, here, j))
    (λ j. let r : (z : A) × Member xs z × Member (f z) y = flat_map-from f xs y j in
    (r.0, there r.1, r.2))
  where
    at : {P : Type 0} (ys : List B) → Member (ys ++ flat_map f xs) y → (Member ys y → P)
        → (Member (flat_map f xs) y → P) → P
    at [] i g h = h i
    at (z ∷ ys) here g h = g here
    at (z ∷ ys) (there i) g h = at ys i (λ j. g (there j)) h

member-flat_map : {A B : Type 0} (f : A → List B) (xs : List A) (x : A) (y : B) → Member xs x
    → Member (f x) y → Member (flat_map f xs) y
member-flat_map f [] x y i j = elim i [ ]
member-flat_map f (x ∷ xs) z y here j = member-append_left (f x) (flat_map f xs) y j
member-flat_map f (x ∷ xs) z y (there i) j =
    member-append_right (f x) (flat_map f xs) y (member-flat_map f xs z y i j)

below : (k g : ℕ) → nat_lt k g ≡ true → k < g
below k g e = grind (arith, nat_tests)

is_below : (k g : ℕ) → k < g → nat_lt k g ≡ true
is_below k g b = grind (arith, nat_tests)

module _ (env : EnvTree) where
  abbrev system_number : ℕ → ℕ
  system_number k = (statement_at env k).system

  -- a lemma or an equivalence is used within its system
  usable_parts : (g k : ℕ) → usable env g k ≡ true → is_axiom (statement_at env k).kind ≡ false
      → (k < g) × (system_number k ≡ system_number g)
  usable_parts g k u claimed =
      let s : (nat_lt k g ≡ true) × _ = and_split (nat_lt k g) _ u in (
        below k g s.0,
        eqb-true (system_number k) (system_number g)
            (first_of (system_number k == system_number g)
            (is_axiom (statement_at env k).kind) _ s.1 claimed),
      )
    where
      first_of : (a b c : Bool) → (a || (b && c)) ≡ true → b ≡ false → a ≡ true
      first_of true b c e f = refl
      first_of false true c e f = absurd (let x : true ≡ false = f in cc)
      first_of false false c e f = e

  -- the axioms of an earlier goal of the system are axioms of a later one
  usable_later : (g k j : ℕ) → k < g → system_number k ≡ system_number g → usable env k j ≡ true
      → usable env g j ≡ true
  usable_later g k j b e u =
      let s : (nat_lt j k ≡ true) × _ = and_split (nat_lt j k) _ u in
      let lower : j < k = below j k s.0 in
      and_both (nat_lt j g) _ (is_below j g (omega arith))
      (subst (λ n. ((system_number j == n) || is_timeless_axiom (statement_at env j)) ≡ true) e s.1)

  abbrev axioms_of : ℕ → ℕ → List TermTree
  axioms_of n j =
      if is_axiom (statement_at env j).kind && usable env n j then
      formula_of (statement_at env j).start ∷ [] else []

  axioms_later : (g k : ℕ) → k < g → system_number k ≡ system_number g
      → Each (Member (usable_axioms env g)) (usable_axioms env k)
  axioms_later g k b e t i = found (flat_map-from (axioms_of k) (count 0 k) t i)
    where
      same_there : (j : ℕ) (a c : Bool)
          → Member (if a then formula_of (statement_at env j).start ∷ [] else []) t
          → (a ≡ true → c ≡ true)
          → Member (if c then formula_of (statement_at env j).start ∷ [] else []) t
      same_there j true c i h =
          subst (λ q. Member (if q then formula_of (statement_at env j).start ∷ [] else []) t)
          (sym (h refl)) i
      same_there j false c i h = elim i [ ]

      found : (j : ℕ) × Member (count 0 k) j × Member (axioms_of k j) t
          → Member (usable_axioms env g) t
      found (j, i, at) =
          let lower : j < 0 + k = member-count 0 k j i in
          member-flat_map (axioms_of g) (count 0 g) j t
          (count-member 0 g j (omega arith) (omega arith))
          (same_there j (is_axiom (statement_at env j).kind && usable env k j)
          (is_axiom (statement_at env j).kind && usable env g j) at
          (λ h. let s : (is_axiom (statement_at env j).kind ≡ true)
          × (usable env k j ≡ true) =
          and_split (is_axiom (statement_at env j).kind) (usable env k j) h in
          and_both (is_axiom (statement_at env j).kind) (usable env g j) s.0
          (usable_later g k j b e s.1)))

  -- what holds before k holds before g, where g may use it
  pub usable_holds : (g k : ℕ) (m : Model) → usable env g k ≡ true
      → is_axiom (statement_at env k).kind ≡ false → KnowsNothing (statement_at env k).start
      → HoldsAt (theory_of env k m) (statement_at env k).start
      → HoldsAt (theory_of env g m) (statement_at env k).start
  usable_holds g k m u claimed n h =
      let p : (k < g) × (system_number k ≡ system_number g) = usable_parts g k u claimed in
      let there' : HoldsAt (theory_at (system_of env k) m env.funs (usable_axioms env g))
      (statement_at env k).start =
      still_holds (theory_of env k m) (usable_axioms env g) (axioms_later g k p.0 p.1)
      (statement_at env k).start n h in
      subst (λ s. HoldsAt
      (theory_at (get_or env.systems s no_actions) m env.funs (usable_axioms env g))
      (statement_at env k).start) p.1 there'

  pub system_of-usable : (g k : ℕ) → usable env g k ≡ true
      → is_axiom (statement_at env k).kind ≡ false → system_of env k ≡ system_of env g
  system_of-usable g k u claimed =
      ap (λ s. get_or env.systems s no_actions) (usable_parts g k u claimed).1

  -- where each goal holds as soon as those do that it may use, all hold
  module _ (starts : (k : ℕ) → KnowsNothing (statement_at env k).start)
      (next : (g : ℕ) → IsClaimed env g → HoldsByEarlier env g) where
    up_to_all : (n g : ℕ) → g < n → IsClaimed env g → HoldsEverywhere env g
    up_to_all zero g b claimed m M = absurd (omega arith)
    up_to_all (suc n) g b claimed m M = next g claimed m M
        (λ k u claimed'. let p : (k < g)
        × (system_number k ≡ system_number g) = usable_parts g k u claimed' in
        usable_holds g k m u claimed' (starts k)
        (up_to_all n k (let c : k < g = p.0 in omega arith) claimed' m
        (subst (λ s. IsTraceModel s m) (sym (system_of-usable g k u claimed')) M)))

    pub goals_hold : (g : ℕ) → IsClaimed env g → HoldsEverywhere env g
    goals_hold g claimed = up_to_all (suc g) g (omega arith) claimed
