-- A word is found among those that begin with its first letter.
use Rattle.std.proofs.Common.{◌≡◌, ℕ, Bool, true, false, if◌then◌else◌, nat_eq, List, [], ◌∷◌}
use Rattle.std.proofs.Common.{length, filter}
use Rattle.std.proofs.Common.{find, slice_index, Some, None, bytes_eq, refl, sym, ap, arith}
use Rattle.std.proofs.lemmas.Slice.Eq.{bytes_eq-Decides}
use Rattle.std.proofs.lemmas.Bool.Decides.{nat_tests}
use Rattle.sq_cert_words.specs.Words.{plain_text, plain_words, plain_beginning, plain_of}

-- what passes a test is found among what is kept, where all that passes is kept
find-filter : {X : Type 0} (test keeps : X → Bool) (xs : List X)
    → ((x : X) → test x ≡ true → keeps x ≡ true) → find test (filter keeps xs) ≡ find test xs
find-filter test keeps [] all = refl
find-filter {X} test keeps (x ∷ xs) all =
    by (keeps x) (test x) refl refl (find-filter test keeps xs all)
  where
    by : (k t : Bool) → keeps x ≡ k → test x ≡ t
        → find test (filter keeps xs) ≡ find test xs
        → find test (if k then x ∷ filter keeps xs else filter keeps xs)
        ≡ (if t then Some x else find test xs)
    by true true k t e = rw t
    by true false k t e = rw t e
    by false true k t e = let kept = all x t in cc
    by false false k t e = e

-- the words of a list, each with its text, that begin with a letter hold the one that is written so
pub found_by_letter : {X : Type 0} (text : X → List ℕ) (xs : List X) (c : ℕ) (cs : List ℕ)
    → find (λ x. bytes_eq (text x) (c ∷ cs)) (filter (λ x. nat_eq (slice_index (text x) 0) c) xs)
    ≡ find (λ x. bytes_eq (text x) (c ∷ cs)) xs
found_by_letter {X} text xs c cs =
    find-filter (λ x. bytes_eq (text x) (c ∷ cs)) (λ x. nat_eq (slice_index (text x) 0) c) xs all
  where
    all : (x : X) → bytes_eq (text x) (c ∷ cs) ≡ true → nat_eq (slice_index (text x) 0) c ≡ true
    all x e =
        let same : text x ≡ c ∷ cs = (bytes_eq-Decides (text x) (c ∷ cs)).0 e in
        let letter : slice_index (text x) 0 ≡ c = ap (λ w. slice_index w 0) same in
        grind (arith, nat_tests)

pub plain_by_letter : (text : List ℕ) (c : ℕ) (cs : List ℕ) → text ≡ c ∷ cs
    → plain_of text ≡ find (λ p. bytes_eq (plain_text p) text) (plain_beginning c)
unfolding plain_of
plain_by_letter text c cs begins = rw begins (sym (found_by_letter plain_text plain_words c cs))

pub plain_of_nothing : (text : List ℕ) → length text ≡ 0 → plain_of text ≡ None
unfolding plain_of
plain_of_nothing [] none = refl
plain_of_nothing (c ∷ cs) none = absurd (omega arith)
