-- Digits at the front of a text.
use Rattle.std.proofs.Common.{◌≡◌, ◌<◌, ◌≤◌, ◌+◌, ◌^◌, ℕ, zero, suc, Bool, true, false, nat_lt}
use Rattle.std.proofs.Common.{List, [], ◌∷◌, ◌++◌, Result, Err, length, take, drop, refl, sym, ap}
use Rattle.std.proofs.Common.{subst, ◌∙◌, arith, get_or}
use Rattle.std.specs.Prelude.{if◌then◌else◌}
use Rattle.std.specs.List.{prefix_len}
use Rattle.std.specs.Char.{is_ascii_digit, digit_value}
use Rattle.std.specs.Result.{OkIff}
use Rattle.std.specs.Str.{IsUtf8, IsCharBoundary, all_ascii_digits}
use Rattle.std.specs.Str.Parse.{digits_value, ParsesUnsigned}
use Rattle.std.proofs.lemmas.Bool.{and_parts, and_from, false_from_ne_true}
use Rattle.std.proofs.lemmas.Bool.Decides.{nat_tests}
use Rattle.std.proofs.lemmas.List.{length-take-le}
use Rattle.std.proofs.lemmas.Str.{IsCharBoundary-after_ascii, digit_value_digit}
use Rattle.std.proofs.lemmas.Str.Parse.{IsNumeralModel, numerals_by_value, tells_all_ascii_digits}
use Rattle.std.proofs.lemmas.Str.Parse.{parse_digits}
use Rattle.sq_token.specs.Kinds.{is_number, number_value}
use Rattle.sq_lex.specs.declared.piece.Piece.TheVariants.{Wide}
use Rattle.sq_lex.specs.Characters.{begins_with_digit}
use Rattle.sq_lex.specs.Pieces.{digits}
use Rattle.sq_lex.proofs.FirstBytes.{digit_small}

own : IsNumeralModel (λ ds. all_ascii_digits ds ≡ true) (digits_value 10)
own = numerals_by_value (λ ds. all_ascii_digits ds ≡ true) tells_all_ascii_digits

pub prefix_len-le : (p : ℕ → Bool) (bs : List ℕ) → prefix_len p bs ≤ length bs
prefix_len-le p [] = omega arith
prefix_len-le p (b ∷ bs) = by (p b) (prefix_len-le p bs)
  where
    by : (t : Bool) → prefix_len p bs ≤ length bs
        → (if t then 1 + prefix_len p bs else 0) ≤ length (b ∷ bs)
    by true h = omega arith
    by false h = omega arith

-- ---- the digits at the front

-- they are digits
pub digits_front : (bs : List ℕ) → all_ascii_digits (take (prefix_len is_ascii_digit bs) bs) ≡ true
digits_front [] = refl
digits_front (b ∷ bs) = by (is_ascii_digit b) refl (digits_front bs)
  where
    by : (t : Bool) → is_ascii_digit b ≡ t
        → all_ascii_digits (take (prefix_len is_ascii_digit bs) bs) ≡ true
        → all_ascii_digits
        (take (if t then 1 + prefix_len is_ascii_digit bs else 0) (b ∷ bs)) ≡ true
    by true e h =
        let n = prefix_len is_ascii_digit bs in
        let one : 1 + n ≡ suc n = omega arith in
        rw (one, e) h
    by false e h = refl

-- no digit follows them
pub digits_behind : (bs : List ℕ)
    → begins_with_digit (drop (prefix_len is_ascii_digit bs) bs) ≡ false
digits_behind [] = refl
digits_behind (b ∷ bs) = by (is_ascii_digit b) refl (digits_behind bs)
  where
    by : (t : Bool) → is_ascii_digit b ≡ t
        → begins_with_digit (drop (prefix_len is_ascii_digit bs) bs) ≡ false
        → begins_with_digit
        (drop (if t then 1 + prefix_len is_ascii_digit bs else 0) (b ∷ bs)) ≡ false
    by true e h =
        let n = prefix_len is_ascii_digit bs in
        let one : 1 + n ≡ suc n = omega arith in
        rw one h
    by false e h = e

-- digits that no digit follows are all the digits there
pub digits_whole : (ds after : List ℕ) → all_ascii_digits ds ≡ true
    → begins_with_digit after ≡ false → prefix_len is_ascii_digit (ds ++ after) ≡ length ds
digits_whole [] [] e h = refl
digits_whole [] (b ∷ bs) e h = rw h refl
digits_whole (d ∷ ds) after e h =
    let parts = and_parts (is_ascii_digit d) (all_ascii_digits ds) e in
    let more = digits_whole ds after parts.1 h in
    rw (parts.0) (omega (arith, more))

-- digits in front of anything are not more than all the digits there
pub digits_least : (ds after : List ℕ) → all_ascii_digits ds ≡ true
    → length ds ≤ prefix_len is_ascii_digit (ds ++ after)
digits_least [] after e = omega arith
digits_least (d ∷ ds) after e =
    let parts = and_parts (is_ascii_digit d) (all_ascii_digits ds) e in
    let more = digits_least ds after parts.1 in
    rw (parts.0) (omega (arith, more))

-- ---- their boundary and value

-- each of the bytes at the front that pass is there and passes
passes_at : (p : ℕ → Bool) (bs : List ℕ) (k : ℕ) → k < prefix_len p bs
    → (k < length bs) × (p (get_or bs k 0) ≡ true)
passes_at p [] k h = absurd (omega arith)
passes_at p (b ∷ bs) k h = by (p b) refl k h (passes_at p bs)
  where
    by : (t : Bool) → p b ≡ t → (k : ℕ) → k < (if t then 1 + prefix_len p bs else 0)
        → ((k : ℕ) → k < prefix_len p bs → (k < length bs) × (p (get_or bs k 0) ≡ true))
        → (k < length (b ∷ bs)) × (p (get_or (b ∷ bs) k 0) ≡ true)
    by false e k h ih = absurd (omega arith)
    by true e zero h ih = (omega arith, e)
    by true e (suc k) h ih = let r = ih k (omega arith) in (omega arith, r.1)

pub digits_boundary : (bs : List ℕ) (n : ℕ) → IsUtf8 bs → 0 < n
    → n ≡ prefix_len is_ascii_digit bs → IsCharBoundary bs n
digits_boundary bs zero u some e = absurd (omega arith)
digits_boundary bs (suc k) u some e =
    let at = passes_at is_ascii_digit bs k (omega arith) in
    let less : suc k ≡ k + 1 = omega arith in
    subst (IsCharBoundary bs) (sym less)
    (IsCharBoundary-after_ascii bs k u at.0 (digit_small (get_or bs k 0) at.1))

pub number_made : (text : List ℕ) → 0 < length text → all_ascii_digits text ≡ true
    → nat_lt (number_value text) (2 ^ 128) ≡ true → is_number text ≡ true
number_made [] h p q = absurd (omega arith)
number_made (b ∷ bs) h p q = and_from _ _ p q

-- one digit is a number
pub digit_number : (b : ℕ) → is_ascii_digit b ≡ true → is_number (b ∷ []) ≡ true
digit_number b e =
    let high : b ≤ 57 = grind (arith, nat_tests) in
    let value : digit_value b + 48 ≡ b = digit_value_digit b (grind (arith, nat_tests), high) in
    let same : number_value (b ∷ []) ≡ digit_value b = omega arith in
    let small : number_value (b ∷ []) < 2 ^ 128 = omega arith in
    let test : nat_lt (number_value (b ∷ [])) (2 ^ 128) ≡ true = grind (arith, nat_tests) in
    number_made (b ∷ []) (omega arith) (rw e refl) test

pub digits_wide : {E : Type 0} (bs front : List ℕ) (n : ℕ) (r : Result ℕ E) (x : E) → 0 < n
    → n ≡ prefix_len is_ascii_digit bs → front ≡ take n bs → ParsesUnsigned 128 10 front r
    → r ≡ Err x → Wide ≡ digits n bs
digits_wide {E} bs front n r x some e f h is =
    let tested : all_ascii_digits front ≡ true =
    ap all_ascii_digits (f ∙ ap (λ k. take k bs) e) ∙ digits_front bs in
    let read : Fits r = parse_digits own 128 front r h tested in
    let no = subst Fits is read in
    let le : n ≤ length bs = omega (arith, prefix_len-le is_ascii_digit bs) in
    let long : 0 < length front = omega (arith, ap length f, length-take-le n bs le) in
    let same : number_value (take n bs) ≡ digits_value 10 front = ap (digits_value 10) (sym f) in
    let test : nat_lt (number_value (take n bs)) (2 ^ 128) ≡ false =
    false_from_ne_true _ (λ t. no (long, subst (λ v. v < 2 ^ 128) same (small t))) in
    rw test refl
  where
    Fits : Result ℕ E → Type 0
    Fits q =
        let value = digits_value 10 front in
        OkIff q ((0 < length front) × (value < 2 ^ 128)) value

    small : nat_lt (number_value (take n bs)) (2 ^ 128) ≡ true → number_value (take n bs) < 2 ^ 128
    small t = grind (arith, nat_tests)
