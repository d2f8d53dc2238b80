-- What `find` finds among others.
use Rattle.std.proofs.Common.{◌≡◌, ℕ, ◌≤◌, Bool, true, false, not, ◌&&◌, nat_le, List, [], ◌∷◌}
use Rattle.std.proofs.Common.{Some, None, find, refl, ap, ◌∙◌, sym, arith}
use Rattle.std.specs.Prelude.{if◌then◌else◌}
use Rattle.std.specs.List.{list_all}
use Rattle.std.proofs.lemmas.Bool.{and_parts, and_from, not_from_false}
use Rattle.std.proofs.lemmas.Bool.Decides.{nat_tests}

-- what is found passes the test
pub found_passes : {X : Type 0} (test : X → Bool) (xs : List X) (x : X) → find test xs ≡ Some x
    → test x ≡ true
found_passes test [] x e = cc
found_passes test (y ∷ ys) x e = by (test y) refl e (found_passes test ys x)
  where
    by : (t : Bool) → test y ≡ t → (if t then Some y else find test ys) ≡ Some x
        → (find test ys ≡ Some x → test x ≡ true) → test x ≡ true
    by true p q h = cc
    by false p q h = h q

-- what is found is among them: what holds of all of them holds of it
pub found_holds : {X : Type 0} (test holds : X → Bool) (xs : List X) (x : X)
    → find test xs ≡ Some x → list_all holds xs ≡ true → holds x ≡ true
found_holds test holds [] x e all = cc
found_holds test holds (y ∷ ys) x e all =
    let parts = and_parts (holds y) (list_all holds ys) all in
    by (test y) e parts.0 (λ q. found_holds test holds ys x q parts.1)
  where
    by : (t : Bool) → (if t then Some y else find test ys) ≡ Some x → holds y ≡ true
        → (find test ys ≡ Some x → holds x ≡ true) → holds x ≡ true
    by true q h go = let same : y ≡ x = cc in ap holds (sym same) ∙ h
    by false q h go = go q

-- where none is found, each fails the test
pub all_fail : {X : Type 0} (test : X → Bool) (xs : List X) → find test xs ≡ None
    → list_all (λ x. not (test x)) xs ≡ true
all_fail test [] e = refl
all_fail test (y ∷ ys) e = by (test y) refl e (all_fail test ys)
  where
    by : (t : Bool) → test y ≡ t → (if t then Some y else find test ys) ≡ None
        → (find test ys ≡ None → list_all (λ x. not (test x)) ys ≡ true)
        → (not (test y) && list_all (λ x. not (test x)) ys) ≡ true
    by true p q go = cc
    by false p q go = and_from _ _ (not_from_false (test y) p) (go q)

-- none is longer than one in front of it
abbrev pub is_descending : {X : Type 0} → (X → ℕ) → List X → Bool
is_descending len [] = true
is_descending len (x ∷ xs) = list_all (λ y. nat_le (len y) (len x)) xs && is_descending len xs

-- then the one that is found first is the longest that passes
pub found_longest : {X : Type 0} (len : X → ℕ) (test other : X → Bool) (xs : List X) (x y : X)
    → is_descending len xs ≡ true → find test xs ≡ Some x → find other xs ≡ Some y
    → test y ≡ true → len y ≤ len x
found_longest len test other [] x y d e f t = cc
found_longest len test other (z ∷ zs) x y d e f t =
    let parts = and_parts (list_all (λ u. nat_le (len u) (len z)) zs) (is_descending len zs) d in
    by (test z) (other z) refl e f parts.0
    (λ p q. found_longest len test other zs x y parts.1 p q t)
  where
    by : (a b : Bool) → test z ≡ a → (if a then Some z else find test zs) ≡ Some x
        → (if b then Some z else find other zs) ≡ Some y
        → list_all (λ u. nat_le (len u) (len z)) zs ≡ true
        → (find test zs ≡ Some x → find other zs ≡ Some y → len y ≤ len x) → len y ≤ len x
    by true true k p q all go =
        let first : len z ≡ len x = let same : z ≡ x = cc in ap len same in
        let second : len z ≡ len y = let same : z ≡ y = cc in ap len same in
        omega arith
    by true false k p q all go =
        let first : len z ≡ len x = let same : z ≡ x = cc in ap len same in
        let less = found_holds other (λ u. nat_le (len u) (len z)) zs y q all in
        grind (arith, nat_tests)
    by false true k p q all go = let same : z ≡ y = cc in cc
    by false false k p q all go = go p q
