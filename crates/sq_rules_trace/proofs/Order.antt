-- The order of positions, where undefined is no position.
use Rattle.std.proofs.Common.{◌≡◌, ◌⊎◌, inl, inr, refl, sym, ◌∙◌, ℕ, zero, suc, ◌<◌, ◌≤◌, Option}
use Rattle.std.proofs.Common.{Some, None, Bool}
use Rattle.std.proofs.Common.{true, false, nat_le, ◌==◌, arith}
use Rattle.std.proofs.lemmas.Bool.Decides.{nat_tests}
use Rattle.sq_term.specs.Translate.{before, is_position, is_upto, is_same_time}

abbrev IsUpto : Option ℕ → Option ℕ → Type 0
IsUpto p q = is_upto p q ≡ true

abbrev AreSame : Option ℕ → Option ℕ → Type 0
AreSame p q = is_same_time p q ≡ true

abbrev Happens : Option ℕ → Type 0
Happens p = is_position p ≡ true

le-true : (p q : ℕ) → p ≤ q → nat_le p q ≡ true
le-true p q h = grind (arith, nat_tests)

true-le : (p q : ℕ) → nat_le p q ≡ true → p ≤ q
true-le p q h = grind (arith, nat_tests)

eq-true : (p q : ℕ) → p ≡ q → (p == q) ≡ true
eq-true p q h = grind (arith, nat_tests)

true-eq : (p q : ℕ) → (p == q) ≡ true → p ≡ q
true-eq p q h = grind (arith, nat_tests)

pub upto_itself : (p : Option ℕ) → Happens p → IsUpto p p
upto_itself (Some p) h = le-true p p (omega arith)
upto_itself None h = h

pub upto_trans : (p q r : Option ℕ) → IsUpto p q → IsUpto q r → IsUpto p r
upto_trans (Some p) (Some q) (Some r) h k =
    le-true p r (omega (arith, true-le p q h, true-le q r k))
upto_trans _ _ _ h k = cc

pub upto_both : (p q : Option ℕ) → IsUpto p q → IsUpto q p → AreSame p q
upto_both (Some p) (Some q) h k = eq-true p q (omega (arith, true-le p q h, true-le q p k))
upto_both _ _ h k = cc

pub upto_either : (p q : Option ℕ) → Happens p → Happens q → IsUpto p q ⊎ IsUpto q p
upto_either (Some p) (Some q) h k = numbers (nat_le p q) refl
  where
    numbers : (b : Bool) → nat_le p q ≡ b → IsUpto (Some p) (Some q) ⊎ IsUpto (Some q) (Some p)
    numbers true e = inl e
    numbers false e = inr (grind (arith, nat_tests))
upto_either None q h k = absurd (cc)
upto_either (Some p) None h k = absurd (cc)

pub upto_happens : (p q : Option ℕ) → IsUpto p q → Happens p × Happens q
upto_happens (Some p) (Some q) h = (refl, refl)
upto_happens None q h = absurd (cc)
upto_happens (Some p) None h = absurd (cc)

-- one of two happens, or they are both undefined
pub some_or_same : (p q : Option ℕ) → Happens p ⊎ (Happens q ⊎ AreSame p q)
some_or_same (Some p) q = inl refl
some_or_same None (Some q) = inr (inl refl)
some_or_same None None = inr (inr refl)

pub first_of_all : (p : Option ℕ) → Happens p → IsUpto (Some 0) p
first_of_all (Some p) h = le-true 0 p (omega arith)
first_of_all None h = h

pub before_upto : (p : Option ℕ) → Happens (before p) → IsUpto (before p) p
before_upto (Some (suc p)) h = le-true p (suc p) (omega arith)
before_upto (Some zero) h = h
before_upto None h = h

pub before_differs : (p : Option ℕ) → Happens (before p) → AreSame (before p) p → false ≡ true
before_differs (Some (suc p)) h e = absurd (let k : p ≡ suc p = true-eq p (suc p) e in omega arith)
before_differs (Some zero) h e = h
before_differs None h e = h

pub before_happens : (p : Option ℕ) → Happens p → (AreSame p (Some 0) → false ≡ true)
    → Happens (before p)
before_happens (Some (suc p)) h e = refl
before_happens (Some zero) h e = e refl
before_happens None h e = h

pub upto_before : (p q : Option ℕ) → IsUpto p q → (AreSame p q → false ≡ true)
    → IsUpto p (before q)
upto_before (Some p) (Some (suc q)) h e = numbers (p == suc q) refl
  where
    numbers : (b : Bool) → (p == suc q) ≡ b → IsUpto (Some p) (Some q)
    numbers true f = absurd (let z : false ≡ true = e f in cc)
    numbers false f =
        let k : p ≤ suc q = true-le p (suc q) h in le-true p q (grind (arith, nat_tests))
upto_before (Some p) (Some zero) h e =
    let k : p ≤ 0 = true-le p 0 h in e (eq-true p 0 (omega arith))
upto_before (Some p) None h e = h
upto_before None q h e = h

-- equal positions are the same
pub same_is : (p q : Option ℕ) → AreSame p q → p ≡ q
same_is (Some p) (Some q) e = let k : p ≡ q = true-eq p q e in cc
same_is None None e = refl
same_is (Some p) None e = absurd (cc)
same_is None (Some q) e = absurd (cc)

pub is_same : (p q : Option ℕ) → p ≡ q → AreSame p q
is_same (Some p) (Some q) e = let k : p ≡ q = cc in eq-true p q k
is_same None None e = refl
is_same (Some p) None e = absurd (cc)
is_same None (Some q) e = absurd (cc)

pub happens_at : (p : Option ℕ) → Happens p → (q : ℕ) × (p ≡ Some q)
happens_at (Some q) h = (q, refl)
happens_at None h = absurd (cc)

-- positions behind one another
pub earlier_upto : (p q : Option ℕ) (j k : ℕ) → p ≡ Some (suc j) → q ≡ Some (suc k) → j < k
    → IsUpto p q
earlier_upto p q j k e f b =
    rw (e, f) (le-true (suc j) (suc k) (omega arith))

pub earlier_differs : (p q : Option ℕ) (j k : ℕ) → p ≡ Some (suc j) → q ≡ Some (suc k) → j < k
    → AreSame p q → false ≡ true
earlier_differs p q j k e f b g =
    let z : Some (suc j) ≡ Some (suc k) = sym e ∙ (same_is p q g ∙ f) in
    let y : j ≡ k = cc in
    absurd (omega (arith, y))

-- what is before a position and not the same is an earlier one
pub earlier_position : (o q : Option ℕ) (p : ℕ) → q ≡ Some p → IsUpto o q
    → (AreSame o q → false ≡ true) → (k : ℕ) × (o ≡ Some k) × (k < p)
earlier_position (Some k) (Some r) p e h d = (k, refl, numbers (k == r) refl)
  where
    same : r ≡ p
    same = cc

    numbers : (b : Bool) → (k == r) ≡ b → k < p
    numbers true f = absurd (let z : false ≡ true = d f in cc)
    numbers false f =
        let l : k ≤ r = true-le k r h in
        let z : k < r = grind (arith, nat_tests) in
        omega (arith, same)
earlier_position (Some k) None p e h d = absurd (cc)
earlier_position None q p e h d = absurd (cc)
