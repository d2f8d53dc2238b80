-- A number is read from the front of a text exactly where its decimal digits stand there.
use Rattle.std.proofs.Common.{◌≡◌, ◌<◌, ◌≤◌, ◌^◌, ℕ, ◌+◌, ◌-◌, ◌*◌, ◌/◌, ◌%◌, Bool, true, false}
use Rattle.std.proofs.Common.{if◌then◌else◌, nat_le, nat_eq, List, [], ◌∷◌, ◌++◌, Option, Some}
use Rattle.std.proofs.Common.{None}
use Rattle.std.proofs.Common.{decimal, refl, sym, ap, ◌∙◌, append_assoc, append-nil, arith}
use Rattle.std.proofs.Common.{option_and_then, ◌≢◌}
use Rattle.std.proofs.lemmas.Bool.Decides.{nat_tests}
use Rattle.std.proofs.lemmas.Fmt.{decimal_by_steps, decimal_step, decimal_digit}
use Rattle.std.specs.Char.{is_ascii_digit}
use Rattle.sq_cert_words.specs.Numbers.{digits_on, number, alone, last_number, behind_slash}
use Rattle.sq_cert_words.specs.Numbers.{two_numbers, three_numbers}

pub same_value : {A : Type 0} (x y : A) → Some x ≡ Some y → x ≡ y
same_value x y e = cc

pub same_found : {A B : Type 0} (p q : A × B) → Some p ≡ Some q → (p.0 ≡ q.0) × (p.1 ≡ q.1)
same_found p q e = let h = same_value p q e in (ap (λ r. r.0) h, ap (λ r. r.1) h)

-- the text does not go on with a digit
abbrev pub EndsNumber : List ℕ → Type 0
EndsNumber [] = Unit {0}
EndsNumber (c ∷ cs) = is_ascii_digit c ≡ false

digit_is : (d : ℕ) → d < 10 → is_ascii_digit (48 + d) ≡ true
digit_is d small = grind (arith, nat_tests)

digit_value_of : (c : ℕ) → is_ascii_digit c ≡ true → (d : ℕ) × (c ≡ 48 + d) × (d < 10)
digit_value_of c h =
    let low : 48 ≤ c = grind (arith, nat_tests) in
    let high : c ≤ 57 = grind (arith, nat_tests) in
    (c - 48, omega arith, omega arith)

-- one more digit
digit_on : (most v d : ℕ) (rest : List ℕ) → d < 10 → v * 10 + d ≤ most
    → digits_on most v ((48 + d) ∷ rest) ≡ digits_on most (v * 10 + d) rest
digit_on most v d rest small fits =
    let value : (48 + d) - 48 ≡ d = omega arith in
    let within : nat_le (v * 10 + d) most ≡ true = grind (arith, nat_tests) in
    rw (digit_is d small, value, within)

-- the digits of a number above 0 lead from the first of them to the number
record Leads (n : ℕ) (bs : List ℕ) : Type 0 where
  first : ℕ
  others : List ℕ
  is : bs ≡ (48 + first) ∷ others
  some : 0 < first
  small : first < 10
  reach : (most : ℕ) (rest : List ℕ) → n ≤ most
      → digits_on most first (others ++ rest) ≡ digits_on most n rest

one_digit : (n : ℕ) → n < 10 → 0 < n → Leads n ((48 + n) ∷ [])
one_digit n small some =
    record {
      first = n;
      others = [];
      is = refl;
      some = some;
      small = small;
      reach =
          λ most rest fits. refl;
    }

more_digits : (n : ℕ) (ds : List ℕ) → 10 ≤ n → (0 < n / 10 → Leads (n / 10) ds) → 0 < n
    → Leads n (ds ++ ((48 + n % 10) ∷ []))
more_digits n ds large before some =
    let h = before (omega arith) in
    record {
      first = h.first;
      others = h.others ++ ((48 + n % 10) ∷ []);
      is = ap (λ x. x ++ ((48 + n % 10) ∷ [])) h.is;
      some = h.some;
      small = h.small;
      reach = λ most rest fits.
          let value : n / 10 * 10 + n % 10 ≡ n = omega arith in
          let digit : n % 10 < 10 = omega arith in
          let within : n / 10 * 10 + n % 10 ≤ most = omega arith in
          ap (λ x. digits_on most h.first x) (append_assoc h.others ((48 + n % 10) ∷ []) rest)
          ∙ h.reach most ((48 + n % 10) ∷ rest) (omega arith)
          ∙ digit_on most (n / 10) (n % 10) rest digit within
          ∙ ap (λ x. digits_on most x rest) value;
    }

leads : (n : ℕ) → n < 2 ^ 64 → 0 < n → Leads n (decimal n)
leads = decimal_by_steps (λ n bs. 0 < n → Leads n bs) one_digit more_digits

digits_end : (most v : ℕ) (rest : List ℕ) → EndsNumber rest → digits_on most v rest ≡ Some (v, rest)
digits_end most v [] h = refl
digits_end most v (c ∷ cs) h = rw h

first_digit : (most d : ℕ) (cs : List ℕ) → 0 < d → d < 10
    → number most ((48 + d) ∷ cs) ≡ digits_on most d cs
first_digit most d cs some small =
    let other : nat_eq (48 + d) 48 ≡ false = grind (arith, nat_tests) in
    let value : (48 + d) - 48 ≡ d = omega arith in
    rw (other, digit_is d small, value)

pub number_of_decimal : (most n : ℕ) (rest : List ℕ) → n ≤ most → most < 2 ^ 64 → EndsNumber rest
    → number most (decimal n ++ rest) ≡ Some (n, rest)
number_of_decimal most n rest fits wide ends = by (nat_eq n 0) refl
  where
    by : (b : Bool) → nat_eq n 0 ≡ b → number most (decimal n ++ rest) ≡ Some (n, rest)
    by true e =
        let zero : n ≡ 0 = grind (arith, nat_tests) in
        let text : decimal n ≡ 48 ∷ [] = ap decimal zero ∙ decimal_digit 0 (omega arith) in
        rw (text, zero)
    by false e =
        let some : 0 < n = grind (arith, nat_tests) in
        let h = leads n (omega arith) some in
        ap (λ x. number most (x ++ rest)) h.is
        ∙ first_digit most h.first (h.others ++ rest) h.some h.small
        ∙ h.reach most rest fits ∙ digits_end most n rest ends

-- ---- and back

-- a further digit at the end
one_more : (v c : ℕ) → 0 < v → is_ascii_digit c ≡ true → v * 10 + (c - 48) < 2 ^ 64
    → decimal (v * 10 + (c - 48)) ≡ decimal v ++ (c ∷ [])
one_more v c some digit small =
    let low : 48 ≤ c = grind (arith, nat_tests) in
    let high : c ≤ 57 = grind (arith, nat_tests) in
    let front : (v * 10 + (c - 48)) / 10 ≡ v = omega arith in
    let last : 48 + (v * 10 + (c - 48)) % 10 ≡ c = omega arith in
    decimal_step (v * 10 + (c - 48)) (omega arith) small ∙ (λ i. decimal (front i) ++ (last i ∷ []))

abbrev Told : ℕ → ℕ → List ℕ → ℕ → List ℕ → Type 0
Told most v bs n rest = 0 < v → v ≤ most → digits_on most v bs ≡ Some (n, rest)
    → (decimal v ++ bs ≡ decimal n ++ rest) × (n ≤ most)

told_further : (most v c : ℕ) (cs : List ℕ) (n : ℕ) (rest : List ℕ) → most < 2 ^ 64 → 0 < v
    → is_ascii_digit c ≡ true
    → Told most (v * 10 + (c - 48)) cs n rest → (b : Bool) → nat_le (v * 10 + (c - 48)) most ≡ b
    → (if b then digits_on most (v * 10 + (c - 48)) cs else None) ≡ Some (n, rest)
    → (decimal v ++ (c ∷ cs) ≡ decimal n ++ rest) × (n ≤ most)
told_further most v c cs n rest wide some digit go true t e =
    let within : v * 10 + (c - 48) ≤ most = grind (arith, nat_tests) in
    let h = go (omega arith) within e in (
      sym (append_assoc (decimal v) (c ∷ []) cs)
          ∙ ap (λ x. x ++ cs) (sym (one_more v c some digit (omega arith))) ∙ h.0,
      h.1,
    )
told_further most v c cs n rest wide some digit go false t e = cc

told_at : (most v c : ℕ) (cs : List ℕ) (n : ℕ) (rest : List ℕ) → most < 2 ^ 64
    → Told most (v * 10 + (c - 48)) cs n rest
    → (b : Bool) → is_ascii_digit c ≡ b → 0 < v → v ≤ most
    → (if b then if nat_le (v * 10 + (c - 48)) most then digits_on most (v * 10 + (c - 48)) cs
    else None else Some (v, c ∷ cs)) ≡ Some (n, rest)
    → (decimal v ++ (c ∷ cs) ≡ decimal n ++ rest) × (n ≤ most)
told_at most v c cs n rest wide go true digit some fits e =
    told_further most v c cs n rest wide some digit go (nat_le (v * 10 + (c - 48)) most) refl e
told_at most v c cs n rest wide go false digit some fits e =
    let same = same_found (v, c ∷ cs) (n, rest) e in
    let value = same.0 in
    ((λ i. decimal (same.0 i) ++ same.1 i), omega arith)

-- the digits of v and then these are those of n
digits_tell : (most v : ℕ) (bs : List ℕ) (n : ℕ) (rest : List ℕ) → most < 2 ^ 64
    → Told most v bs n rest
digits_tell most v [] n rest wide some fits e =
    let same = same_found (v, []) (n, rest) e in
    let value = same.0 in
    ((λ i. decimal (same.0 i) ++ same.1 i), omega arith)
digits_tell most v (c ∷ cs) n rest wide some fits e =
    told_at most v c cs n rest wide (digits_tell most (v * 10 + (c - 48)) cs n rest wide)
    (is_ascii_digit c) refl some fits e

begun : (most c : ℕ) (cs : List ℕ) (n : ℕ) (rest : List ℕ) → 9 ≤ most → most < 2 ^ 64 → (b d : Bool)
    → nat_eq c 48 ≡ b → is_ascii_digit c ≡ d
    → (if b then Some (0, cs) else if d then digits_on most (c - 48) cs else None) ≡ Some (n, rest)
    → (c ∷ cs ≡ decimal n ++ rest) × (n ≤ most)
begun most c cs n rest nine wide true d zero digit e =
    let same = same_found (0, cs) (n, rest) e in
    let value = same.0 in
    let first : c ≡ 48 = grind (arith, nat_tests) in
    let text : decimal 0 ≡ 48 ∷ [] = decimal_digit 0 (omega arith) in (
      (λ i. first i ∷ cs) ∙ ap (λ x. x ++ cs) (sym text)
          ∙ (λ i. decimal (same.0 i) ++ same.1 i),
      omega arith,
    )
begun most c cs n rest nine wide false true zero digit e =
    let low : 48 ≤ c = grind (arith, nat_tests) in
    let high : c ≤ 57 = grind (arith, nat_tests) in
    let other : c ≢ 48 = grind (arith, nat_tests) in
    let h = digits_tell most (c - 48) cs n rest wide (omega arith) (omega arith) e in
    let back : 48 + (c - 48) ≡ c = omega arith in
    let text : decimal (c - 48) ≡ c ∷ [] =
    decimal_digit (c - 48) (omega arith) ∙ ap (λ x. x ∷ []) back in
    (ap (λ x. x ++ cs) (sym text) ∙ h.0, h.1)
begun most c cs n rest nine wide false false zero digit e = cc

pub number_tells : (most : ℕ) (bs : List ℕ) (n : ℕ) (rest : List ℕ) → 9 ≤ most → most < 2 ^ 64
    → number most bs ≡ Some (n, rest) → (bs ≡ decimal n ++ rest) × (n ≤ most)
number_tells most [] n rest nine wide e = cc
number_tells most (c ∷ cs) n rest nine wide e =
    begun most c cs n rest nine wide (nat_eq c 48) (is_ascii_digit c) refl refl e

-- ---- up to the end of a word

slash_ends : (bs : List ℕ) → EndsNumber (47 ∷ bs)
slash_ends bs = refl

pub last_of_decimal : (n : ℕ) → n < 2 ^ 32 → last_number (decimal n) ≡ Some n
last_of_decimal n small =
    let e = number_of_decimal 4294967295 n [] (omega arith) (omega arith) tt in
    let same : decimal n ++ [] ≡ decimal n = append-nil (decimal n) in
    ap (option_and_then alone) (ap (number 4294967295) (sym same) ∙ e)

pub two_of_decimals : (k n : ℕ) → k < 2 ^ 32 → n < 2 ^ 32
    → two_numbers (decimal k ++ 47 ∷ decimal n) ≡ Some (k, n)
two_of_decimals k n small_k small_n =
    let e = number_of_decimal 4294967295 k (47 ∷ decimal n) (omega arith) (omega arith)
    (slash_ends (decimal n)) in
    rw (e, last_of_decimal n small_n)

pub three_of_decimals : (k n m : ℕ) → k < 2 ^ 32 → n < 2 ^ 32 → m < 2 ^ 32
    → three_numbers (decimal k ++ 47 ∷ (decimal n ++ 47 ∷ decimal m)) ≡ Some (k, (n, m))
three_of_decimals k n m small_k small_n small_m =
    let e = number_of_decimal 4294967295 k (47 ∷ (decimal n ++ 47 ∷ decimal m)) (omega arith)
    (omega arith) (slash_ends (decimal n ++ 47 ∷ decimal m)) in
    rw (e, two_of_decimals n m small_n small_m)

-- ---- and back

alone_tells : (p : ℕ × List ℕ) (n : ℕ) → alone p ≡ Some n → (p.0 ≡ n) × (p.1 ≡ [])
alone_tells (k, []) n e = (same_value k n e, refl)
alone_tells (k, c ∷ cs) n e = cc

-- what a chain found, it found in the first part
pub first_found : {A B : Type 0} (o : Option A) (f : A → Option B) (b : B)
    → option_and_then f o ≡ Some b → (a : A) × (o ≡ Some a) × (f a ≡ Some b)
first_found None f b e = cc
first_found (Some a) f b e = (a, refl, e)

pub last_tells : (bs : List ℕ) (n : ℕ) → last_number bs ≡ Some n → (bs ≡ decimal n) × (n < 2 ^ 32)
last_tells bs n e =
    let h = first_found (number 4294967295 bs) alone n e in
    let told = number_tells 4294967295 bs h.0.0 h.0.1 (omega arith) (omega arith) h.1 in
    let end = alone_tells h.0 n h.2 in
    let value = end.0 in
    (told.0 ∙ (λ i. decimal (end.0 i) ++ end.1 i) ∙ append-nil (decimal n), omega (arith, told.1))

slash_tells : (bs behind : List ℕ) → behind_slash bs ≡ Some behind → bs ≡ 47 ∷ behind
slash_tells [] behind e = cc
slash_tells (c ∷ cs) behind e = by (nat_eq c 47) refl e
  where
    by : (b : Bool) → nat_eq c 47 ≡ b → (if b then Some cs else None) ≡ Some behind → c ∷ cs ≡ 47
        ∷ behind
    by true t q = let first : c ≡ 47 =
        grind (arith, nat_tests) in λ i. first i ∷ same_value cs behind q i
    by false t q = cc

pub two_tell : (bs : List ℕ) (p : ℕ × ℕ) → two_numbers bs ≡ Some p
    → (bs ≡ decimal p.0 ++ 47 ∷ decimal p.1) × (p.0 < 2 ^ 32) × (p.1 < 2 ^ 32)
two_tell bs p e =
    let k = first_found (number 4294967295 bs)
    (λ k. option_and_then (λ behind. option_and_then (λ n. Some (k.0, n)) (last_number behind))
    (behind_slash k.1)) p e in
    let s = first_found (behind_slash k.0.1)
    (λ behind. option_and_then (λ n. Some (k.0.0, n)) (last_number behind)) p k.2 in
    let n = first_found (last_number s.0) (λ n. Some (k.0.0, n)) p s.2 in
    let told = number_tells 4294967295 bs k.0.0 k.0.1 (omega arith) (omega arith) k.1 in
    let last = last_tells s.0 n.0 n.1 in
    let same = same_found (k.0.0, n.0) p n.2 in
    let value = same.0 in
    let other = same.1 in (
      told.0 ∙ ap (λ x. decimal k.0.0 ++ x) (slash_tells k.0.1 s.0 s.1 ∙ ap (λ x. 47 ∷ x) last.0)
          ∙ (λ i. decimal (same.0 i) ++ 47 ∷ decimal (same.1 i)),
      omega (arith, told.1),
      omega (arith, last.1),
    )

pub three_tell : (bs : List ℕ) (p : ℕ × (ℕ × ℕ)) → three_numbers bs ≡ Some p
    → (bs ≡ decimal p.0 ++ 47 ∷ (decimal p.1.0 ++ 47 ∷ decimal p.1.1)) × (p.0 < 2 ^ 32)
    × (p.1.0 < 2 ^ 32) × (p.1.1 < 2 ^ 32)
three_tell bs p e =
    let k = first_found (number 4294967295 bs)
    (λ k. option_and_then (λ behind. option_and_then (λ n. Some (k.0, n)) (two_numbers behind))
    (behind_slash k.1)) p e in
    let s = first_found (behind_slash k.0.1)
    (λ behind. option_and_then (λ n. Some (k.0.0, n)) (two_numbers behind)) p k.2 in
    let n = first_found (two_numbers s.0) (λ n. Some (k.0.0, n)) p s.2 in
    let told = number_tells 4294967295 bs k.0.0 k.0.1 (omega arith) (omega arith) k.1 in
    let others = two_tell s.0 n.0 n.1 in
    let same = same_found (k.0.0, n.0) p n.2 in
    let value = same.0 in
    let first = ap (λ x. x.0) same.1 in
    let second = ap (λ x. x.1) same.1 in (
      told.0 ∙ ap (λ x. decimal k.0.0 ++ x) (slash_tells k.0.1 s.0 s.1 ∙ ap (λ x. 47 ∷ x) others.0)
          ∙ (λ i. decimal (same.0 i) ++ 47 ∷ (decimal (same.1 i).0 ++ 47 ∷ decimal (same.1 i).1)),
      omega (arith, told.1),
      omega (arith, others.1),
      omega (arith, others.2),
    )

-- the text of a number begins with a digit
pub record Begins (text : List ℕ) : Type 0 where
  pub first : ℕ
  pub others : List ℕ
  pub is : text ≡ first ∷ others
  pub digit : is_ascii_digit first ≡ true

pub decimal_begins : (n : ℕ) → n < 2 ^ 64 → Begins (decimal n)
decimal_begins n small = by (nat_eq n 0) refl
  where
    by : (b : Bool) → nat_eq n 0 ≡ b → Begins (decimal n)
    by true e =
        let zero : n ≡ 0 = grind (arith, nat_tests) in
        record {
          first = 48;
          others = [];
          is = ap decimal zero
              ∙ decimal_digit 0 (omega arith);
          digit = refl;
        }
    by false e =
        let some : 0 < n = grind (arith, nat_tests) in
        let h = leads n small some in
        record {
          first = 48 + h.first;
          others = h.others;
          is = h.is;
          digit =
              digit_is h.first h.small;
        }
