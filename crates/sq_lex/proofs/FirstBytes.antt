-- What the first byte of a text tells.
use Rattle.std.proofs.Common.{◌≡◌, ℕ, ◌<◌, true, false, ◌==◌, nat_lt, List, [], ◌∷◌, refl, arith}
use Rattle.std.specs.Char.{is_ascii_digit, is_ascii_alphabetic}
use Rattle.std.specs.Str.{chars}
use Rattle.std.proofs.lemmas.Bool.Decides.{nat_tests}
use Rattle.unicode_ident.proofs.IdentLemmas.{is_xid_start-ascii}
use Rattle.sq_token.specs.Kinds.{is_start}
use Rattle.sq_lex.specs.Characters.{is_blank, opens, closes}
use Rattle.sq_lex.specs.Pieces.{name_len}

pub blank_small : (b : ℕ) → is_blank b ≡ true → b < 128
blank_small b e = grind (arith, nat_tests)

pub digit_small : (b : ℕ) → is_ascii_digit b ≡ true → b < 128
digit_small b e = grind (arith, nat_tests)

pub opening_bytes : (b c : ℕ) → opens b c ≡ true → (b ≡ 40) × (c ≡ 42)
opening_bytes b c e = (grind (arith, nat_tests), grind (arith, nat_tests))

pub closing_bytes : (b c : ℕ) → closes b c ≡ true → (b ≡ 42) × (c ≡ 41)
closing_bytes b c e = (grind (arith, nat_tests), grind (arith, nat_tests))

pub digit_no_blank : (b : ℕ) → is_ascii_digit b ≡ true → is_blank b ≡ false
digit_no_blank b e = grind (arith, nat_tests)

pub digit_no_open : (b c : ℕ) → is_ascii_digit b ≡ true → opens b c ≡ false
digit_no_open b c e = grind (arith, nat_tests)

-- ---- characters

-- a byte below 128 is a character
pub ascii_first : (b : ℕ) (bs : List ℕ) → b < 128 → (cs : List ℕ) × (chars (b ∷ bs) ≡ b ∷ cs)
unfolding chars
ascii_first b bs h = let low : nat_lt b 128 ≡ true = grind (arith, nat_tests) in by bs low
  where
    by : (bs : List ℕ) → nat_lt b 128 ≡ true → (cs : List ℕ) × (chars (b ∷ bs) ≡ b ∷ cs)
    by [] low = ([], rw low refl)
    by (d ∷ ds) low = (chars (d ∷ ds), rw low refl)

-- an ASCII character begins a name if it is a letter or `_`
pub no_start : (b : ℕ) → b < 128 → is_ascii_alphabetic b ≡ false → (b == 95) ≡ false
    → is_start b ≡ false
no_start b h a u = rw (is_xid_start-ascii b h, a, u) refl

pub name_none : (b : ℕ) (bs : List ℕ) → b < 128 → is_start b ≡ false
    → name_len (chars (b ∷ bs)) ≡ 0
name_none b bs h s = let first = ascii_first b bs h in rw (first.1, s) refl

pub blank_no_name : (b : ℕ) (bs : List ℕ) → is_blank b ≡ true → name_len (chars (b ∷ bs)) ≡ 0
blank_no_name b bs e =
    let low = blank_small b e in
    name_none b bs low
    (no_start b low (grind (arith, nat_tests)) (grind (arith, nat_tests)))

pub open_no_name : (b c : ℕ) (bs : List ℕ) → opens b c ≡ true → name_len (chars (b ∷ bs)) ≡ 0
open_no_name b c bs e =
    let low : b < 128 = grind (arith, nat_tests) in
    name_none b bs low
    (no_start b low (grind (arith, nat_tests)) (grind (arith, nat_tests)))

pub digit_no_name : (b : ℕ) (bs : List ℕ) → is_ascii_digit b ≡ true
    → name_len (chars (b ∷ bs)) ≡ 0
digit_no_name b bs e =
    let low = digit_small b e in
    name_none b bs low
    (no_start b low (grind (arith, nat_tests)) (grind (arith, nat_tests)))
