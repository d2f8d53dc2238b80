-- Numbers at the front of a text: decimal digits without a leading zero.
use Rattle.std.specs.Prelude.{ℕ, ◌+◌, ◌-◌, ◌*◌, if◌then◌else◌, ◌==◌, nat_le, List, [], ◌∷◌, Option}
use Rattle.std.specs.Prelude.{Some, None, option_and_then}
use Rattle.std.specs.Char.{is_ascii_digit}

-- The number whose first digits are those of v and whose further ones stand at the front, where it
-- is at most so much, and what is
-- behind it.
abbrev pub digits_on : ℕ → ℕ → List ℕ → Option (ℕ × List ℕ)
digits_on most v [] = Some (v, [])
digits_on most v (c ∷ cs) =
    if is_ascii_digit c then
    (if nat_le (v * 10 + (c - 48)) most then digits_on most (v * 10 + (c - 48)) cs else None)
    else Some (v, c ∷ cs)

-- the number at the front; behind a digit 0 it ends
abbrev pub number : ℕ → List ℕ → Option (ℕ × List ℕ)
number most [] = None
number most (c ∷ cs) =
    if c == 48 then Some (0, cs) else
    (if is_ascii_digit c then digits_on most (c - 48) cs else None)

-- ---- numbers and counts up to the end of a word

abbrev pub alone : ℕ × List ℕ → Option ℕ
alone (n, []) = Some n
alone (n, c ∷ cs) = None

abbrev pub last_number : List ℕ → Option ℕ
last_number text = option_and_then alone (number 4294967295 text)

-- what is behind a slash at the front
abbrev pub behind_slash : List ℕ → Option (List ℕ)
behind_slash [] = None
behind_slash (c ∷ cs) = if c == 47 then Some cs else None

abbrev pub two_numbers : List ℕ → Option (ℕ × ℕ)
two_numbers text =
    option_and_then
    (λ k. option_and_then (λ behind. option_and_then (λ n. Some (k.0, n)) (last_number behind))
    (behind_slash k.1)) (number 4294967295 text)

abbrev pub three_numbers : List ℕ → Option (ℕ × (ℕ × ℕ))
three_numbers text =
    option_and_then
    (λ k. option_and_then (λ behind. option_and_then (λ n. Some (k.0, n)) (two_numbers behind))
    (behind_slash k.1)) (number 4294967295 text)
