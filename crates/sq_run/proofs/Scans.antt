-- What the scanner's words come to.
use Rattle.std.proofs.Common.{◌≡◌, ◌⊎◌, inl, inr, ◌<◌, ℕ, zero, suc, Bool, true, false, ◌||◌}
use Rattle.std.proofs.Common.{List, [], ◌∷◌, refl, sym, subst, arith, nat_lt, codes}
use Rattle.std.proofs.lemmas.Bool.{and_parts}
use Rattle.std.proofs.lemmas.Bool.Decides.{nat_tests}
use Rattle.std.specs.List.{list_all}
use Rattle.std.specs.Str.{IsAscii, IsUtf8, bytes_eq}
use Rattle.std.proofs.lemmas.Str.{IsUtf8-from_ascii}
use Rattle.std.proofs.lemmas.Str.Ascii.{IsAscii-nil}
use Rattle.std.proofs.lemmas.Slice.Eq.{bytes_eq-Decides}
use Rattle.sq_run.specs.Scanning.{is_start, is_part, is_word, is_mark, is_token}

part_is_ascii : (b : ℕ) → is_part b ≡ true → b < 128
part_is_ascii b h = grind (arith, nat_tests)

pub either : (a b : Bool) → a || b ≡ true → (a ≡ true) ⊎ (b ≡ true)
either true b h = inl refl
either false b h = inr h

parts_are_ascii : (bs : List ℕ) → list_all is_part bs ≡ true → IsAscii bs
parts_are_ascii [] h i = IsAscii-nil i
parts_are_ascii (b ∷ bs) h zero = part_is_ascii b (and_parts (is_part b) (list_all is_part bs) h).0
parts_are_ascii (b ∷ bs) h (suc i) =
    parts_are_ascii bs (and_parts (is_part b) (list_all is_part bs) h).1 i

word_is_utf8 : (t : List ℕ) → is_word t ≡ true → IsUtf8 t
word_is_utf8 [] h = absurd (cc (h))
word_is_utf8 (b ∷ bs) h =
    IsUtf8-from_ascii (b ∷ bs)
    (parts_are_ascii (b ∷ bs) (and_parts (is_start b) (list_all is_part (b ∷ bs)) h).1)

ascii_from_test : (bs : List ℕ) → list_all (λ b. nat_lt b 128) bs ≡ true → IsAscii bs
ascii_from_test [] h i = IsAscii-nil i
ascii_from_test (b ∷ bs) h zero = let t =
    (and_parts (nat_lt b 128) (list_all (λ b. nat_lt b 128) bs) h).0 in grind (arith, nat_tests)
ascii_from_test (b ∷ bs) h (suc i) =
    ascii_from_test bs (and_parts (nat_lt b 128) (list_all (λ b. nat_lt b 128) bs) h).1 i

same_text : (t u : List ℕ) → list_all (λ b. nat_lt b 128) u ≡ true → bytes_eq t u ≡ true → IsUtf8 t
same_text t u ascii same =
    subst IsUtf8 (sym ((bytes_eq-Decides t u).0 same))
    (IsUtf8-from_ascii u (ascii_from_test u ascii))

mark_is_utf8 : (t : List ℕ) → is_mark t ≡ true → IsUtf8 t
mark_is_utf8 t h =
    elim (either (bytes_eq t (codes ":") || bytes_eq t (codes "=>")) (bytes_eq t (codes "&&")) h) [
      | inl front ↦ elim (either (bytes_eq t (codes ":")) (bytes_eq t (codes "=>")) front) [
        | inl colon ↦ same_text t (codes ":") refl colon
        | inr arrow ↦ same_text t (codes "=>") refl arrow
      ]
      | inr and ↦ same_text t (codes "&&") refl and
    ]

-- a token is a text
pub token_is_utf8 : (t : List ℕ) → is_token t ≡ true → IsUtf8 t
token_is_utf8 t h = elim (either (is_word t) (is_mark t) h) [
  | inl word ↦ word_is_utf8 t word
  | inr mark ↦ mark_is_utf8 t mark
]
