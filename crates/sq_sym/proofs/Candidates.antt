-- Candidates for names differ, so one of so many is free.
use Rattle.std.proofs.Common.{◌≡◌, ◌≢◌, ◌<◌, ◌≤◌, ◌+◌, ℕ, zero, suc, Bool, true, false}
use Rattle.std.proofs.Common.{if◌then◌else◌}
use Rattle.std.proofs.Common.{◌||◌, nat_eq, List, [], ◌∷◌, ◌++◌, length, Some, slice_get, refl, sym}
use Rattle.std.proofs.Common.{ap, ◌∙◌, subst, arith, length-append}
use Rattle.std.specs.Str.{bytes_eq}
use Rattle.std.specs.Fmt.{decimal}
use Rattle.std.specs.List.{IsDistinct, AllByRecursion}
use Rattle.std.specs.Str.Parse.{digits_value}
use Rattle.std.proofs.lemmas.Cmp.{nat_list_eq_equiv}
use Rattle.std.proofs.lemmas.Bool.{false≢true}
use Rattle.std.proofs.lemmas.Bool.Decides.{nat_tests}
use Rattle.std.proofs.lemmas.Fmt.{decimal_is_IsNumeral_wide}
use Rattle.std.proofs.lemmas.List.{append_cancel_left}
use Rattle.std.proofs.lemmas.Map.Made.{length-le_from_is_member}
use Rattle.std.proofs.lemmas.Slice.Eq.{bytes_eq-Decides}
use Rattle.sq_sym.specs.Candidates.{candidate, candidate_count, among}

numbered : (s : List ℕ) (k : ℕ) → 0 < k → candidate s k ≡ s ++ decimal k
numbered s k h = let e : nat_eq k 0 ≡ false = grind (arith, nat_tests) in rw e refl

decimal-injective : (j k : ℕ) → j < candidate_count → k < candidate_count
    → decimal j ≡ decimal k → j ≡ k
decimal-injective j k hj hk e =
    sym (decimal_is_IsNumeral_wide j hj).1
    ∙ (ap (digits_value 10) e ∙ (decimal_is_IsNumeral_wide k hk).1)

not_bare : (s : List ℕ) (k : ℕ) → 0 < k → k < candidate_count → s ≢ candidate s k
not_bare s k p h e =
    let longer : length s ≡ length s + length (decimal k) =
    ap length (e ∙ numbered s k p) ∙ length-append s (decimal k) in
    let some = (decimal_is_IsNumeral_wide k h).0.0 in
    omega arith

pub candidate-injective : (s : List ℕ) (j k : ℕ) → j < candidate_count → k < candidate_count
    → candidate s j ≡ candidate s k → j ≡ k
candidate-injective s zero zero hj hk e = refl
candidate-injective s zero (suc k) hj hk e = absurd (not_bare s (suc k) (omega arith) hk e)
candidate-injective s (suc j) zero hj hk e = absurd (not_bare s (suc j) (omega arith) hj (sym e))
candidate-injective s (suc j) (suc k) hj hk e =
    decimal-injective (suc j) (suc k) hj hk
    (append_cancel_left s (decimal (suc j)) (decimal (suc k))
    (sym (numbered s (suc j) (omega arith)) ∙ (e ∙ numbered s (suc k) (omega arith))))

first_byte : (c k : ℕ) → slice_get (candidate (c ∷ []) k) 0 ≡ Some c
first_byte c k = by (nat_eq k 0)
  where
    by : (b : Bool) → slice_get (if b then c ∷ [] else (c ∷ []) ++ decimal k) 0 ≡ Some c
    by true = refl
    by false = refl

pub other_stem : (c d j k : ℕ) → c ≢ d → candidate (c ∷ []) j ≢ candidate (d ∷ []) k
other_stem c d j k ne e = let x = first_byte c j in let y = first_byte d k in ne (cc)

pub differ : (x y : List ℕ) → x ≢ y → bytes_eq x y ≡ false
differ x y ne = by (bytes_eq x y) refl
  where
    by : (b : Bool) → bytes_eq x y ≡ b → b ≡ false
    by true e = absurd (ne ((bytes_eq-Decides x y).0 e))
    by false e = refl

pub equal : (x y : List ℕ) → x ≡ y → bytes_eq x y ≡ true
equal x y e = (bytes_eq-Decides x y).1 e

-- the first so many candidates, the last one first
abbrev candidates : List ℕ → ℕ → List (List ℕ)
candidates s zero = []
candidates s (suc n) = candidate s n ∷ candidates s n

length-candidates : (s : List ℕ) (n : ℕ) → length (candidates s n) ≡ n
length-candidates s zero = refl
length-candidates s (suc n) = let e = length-candidates s n in omega arith

apart : (s : List ℕ) (n k : ℕ) → n ≤ k → k < candidate_count
    → AllByRecursion (λ y. bytes_eq (candidate s k) y ≡ false) (candidates s n)
apart s zero k h w = tt
apart s (suc n) k h w = (
  differ (candidate s k) (candidate s n)
      (λ e. let same = candidate-injective s k n w (omega arith) e in omega arith),
  apart s n k
      (omega arith) w,
)

distinct : (s : List ℕ) (n : ℕ) → n ≤ candidate_count → IsDistinct bytes_eq (candidates s n)
unfolding IsDistinct
distinct s zero h = tt
distinct s (suc n) h = (apart s n n (omega arith) (omega arith), distinct s n (omega arith))

-- what is among the first candidates is one of them
one_of : (s : List ℕ) (n : ℕ) (q : List ℕ) → among q (candidates s n) ≡ true
    → (k : ℕ) × (k < n) × (q ≡ candidate s k)
one_of s zero q h = absurd (false≢true h)
one_of s (suc n) q h = by (bytes_eq q (candidate s n)) refl h (λ m. one_of s n q m)
  where
    by : (b : Bool) → bytes_eq q (candidate s n) ≡ b → (b || among q (candidates s n)) ≡ true
        → (among q (candidates s n) ≡ true → (k : ℕ) × (k < n) × (q ≡ candidate s k))
        → (k : ℕ) × (k < suc n) × (q ≡ candidate s k)
    by true e m rest = (n, omega arith, (bytes_eq-Decides q (candidate s n)).0 e)
    by false e m rest = let x = rest m in (x.0, omega arith, x.2)

-- candidates that are all names of a list are no more than its names
pub bounded : (s : List ℕ) (names : List (List ℕ)) (n : ℕ) → n ≤ candidate_count
    → ((k : ℕ) → k < n → among (candidate s k) names ≡ true) → n ≤ length names
bounded s names n w h =
    let l = length-candidates s n in
    let most =
    length-le_from_is_member nat_list_eq_equiv (candidates s n) names (distinct s n w)
    (λ q m. let x = one_of s n q m in
    subst (λ t. among t names ≡ true) (sym x.2) (h x.0 x.1)) in
    omega arith
