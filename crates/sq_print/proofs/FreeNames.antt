-- The name of a binder is free, and the first such.
use Rattle.std.proofs.Common.{◌≡◌, ◌≢◌, ◌<◌, ◌≤◌, ◌+◌, ◌⊎◌, inl, inr, ℕ, zero, suc, Bool, true}
use Rattle.std.proofs.Common.{false, if◌then◌else◌, List, refl, ap, ◌∙◌, arith}
use Rattle.std.proofs.lemmas.Bool.{cases_eq}
use Rattle.sq_base.specs.declared.sort.Sort.{Sort}
use Rattle.sq_print.specs.Names.{Names, first_free, names_count}
use Rattle.sq_sym.specs.Candidates.{candidate, candidate_count}
use Rattle.sq_print.specs.Names.{binder_name, stem}
use Rattle.sq_print.specs.FreeNames.{is_taken, IsFirstFree}
use Rattle.sq_print.proofs.Supplied.{few}

-- a candidate that is not taken, and before which all are taken
abbrev is_taken_at : Names → List (List ℕ) → List ℕ → ℕ → Bool
is_taken_at ns around s k = is_taken ns around (candidate s k)

pub record IsFirst (ns : Names) (around : List (List ℕ)) (s x : List ℕ) (most : ℕ) : Type 0 where
  pub k : ℕ
  pub within : k ≤ most
  pub is : x ≡ candidate s k
  pub free : is_taken_at ns around s k ≡ false
  pub before : (i : ℕ) → i < k → is_taken_at ns around s i ≡ true

free_or_all : (ns : Names) (around : List (List ℕ)) (s : List ℕ) (left j : ℕ)
    → ((i : ℕ) → i < j → is_taken_at ns around s i ≡ true)
    → IsFirst ns around s (first_free ns around s left j) (j + left) ⊎
    ((i : ℕ) → i < j + left + 1 → is_taken_at ns around s i ≡ true)
free_or_all ns around s zero j before = by (is_taken_at ns around s j) refl
  where
    by : (b : Bool) → is_taken_at ns around s j ≡ b
        → IsFirst ns around s (candidate s j) (j + 0) ⊎
        ((i : ℕ) → i < j + 0 + 1 → is_taken_at ns around s i ≡ true)
    by false e = inl (record { k = j; within = omega arith; is = refl; free = e; before = before })
    by true e = inr (λ i h. one i h (cases_eq i j))
      where
        one : (i : ℕ) → i < j + 0 + 1 → (i ≡ j) ⊎ (i ≢ j) → is_taken_at ns around s i ≡ true
        one i h (inl same) = ap (is_taken_at ns around s) same ∙ e
        one i h (inr ne) = before i (omega arith)
free_or_all ns around s (suc left) j before =
    by (is_taken_at ns around s j) refl (λ more. free_or_all ns around s left (j + 1) more)
  where
    by : (b : Bool) → is_taken_at ns around s j ≡ b
        → (((i : ℕ) → i < j + 1 → is_taken_at ns around s i ≡ true)
        → IsFirst ns around s (first_free ns around s left (j + 1)) (j + 1 + left) ⊎
        ((i : ℕ) → i < j + 1 + left + 1 → is_taken_at ns around s i ≡ true))
        → IsFirst ns around s (if b then first_free ns around s left (j + 1) else candidate s j)
        (j + suc left) ⊎ ((i : ℕ) → i < j + suc left + 1 → is_taken_at ns around s i ≡ true)
    by false e rest =
        inl (record { k = j; within = omega arith; is = refl; free = e; before = before })
    by true e rest = wider (rest (λ i h. one i h (cases_eq i j)))
      where
        one : (i : ℕ) → i < j + 1 → (i ≡ j) ⊎ (i ≢ j) → is_taken_at ns around s i ≡ true
        one i h (inl same) = ap (is_taken_at ns around s) same ∙ e
        one i h (inr ne) = before i (omega arith)

        wider : IsFirst ns around s (first_free ns around s left (j + 1)) (j + 1 + left) ⊎
            ((i : ℕ) → i < j + 1 + left + 1 → is_taken_at ns around s i ≡ true)
            → IsFirst ns around s (first_free ns around s left (j + 1)) (j + suc left) ⊎
            ((i : ℕ) → i < j + suc left + 1 → is_taken_at ns around s i ≡ true)
        wider (inl f) =
            let le = f.within in
            inl (record {
              k = f.k;
              within = omega arith;
              is = f.is;
              free = f.free;
              before = f.before;
            })
        wider (inr all) = inr (λ i h. all i (omega arith))

-- so many candidates cannot all be taken
pub binder_free : (ns : Names) (around : List (List ℕ)) (s : Sort)
    → names_count ns around + 1 ≤ candidate_count
    → IsFirst ns around (stem s) (binder_name ns around s) (names_count ns around)
unfolding binder_name
binder_free ns around s w =
    by (free_or_all ns around (stem s) (names_count ns around) 0 (λ i h. absurd (omega arith)))
  where
    by : IsFirst ns around (stem s) (first_free ns around (stem s) (names_count ns around) 0)
        (0 + names_count ns around) ⊎ ((i : ℕ) → i < 0 + names_count ns around + 1
        → is_taken_at ns around (stem s) i ≡ true)
        → IsFirst ns around (stem s) (first_free ns around (stem s) (names_count ns around) 0)
        (names_count ns around)
    by (inl f) =
        let most = f.within in
        record { k = f.k; within = omega arith; is = f.is; free = f.free; before = f.before }
    by (inr all) = let most =
        few ns around (stem s) (names_count ns around + 1) w (λ i h. all i (omega arith)) in
        absurd (omega arith)

pub first_is_free : (ns : Names) (around : List (List ℕ)) (s : Sort)
    → names_count ns around < candidate_count
    → IsFirstFree ns around (stem s) (binder_name ns around s)
first_is_free ns around s w =
    let first = binder_free ns around s (omega arith) in
    record {
      place = first.k;
      is = first.is;
      free = ap (is_taken ns around) first.is ∙ first.free;
      taken_before = first.before;
    }
