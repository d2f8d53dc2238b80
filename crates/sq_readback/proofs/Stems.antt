-- The names that binders may have are identifiers.
use Rattle.std.proofs.Common.{◌≡◌, ◌<◌, ◌+◌, ◌%◌, ℕ, zero, suc, true, false, ◌&&◌, nat_eq}
use Rattle.std.proofs.Common.{nat_lt, List, [], ◌∷◌, ◌++◌, None, length, codes, is_none, refl, sym}
use Rattle.std.proofs.Common.{ap, ◌∙◌, subst, arith}
use Rattle.std.specs.List.{list_all}
use Rattle.std.specs.Char.{is_ascii_digit}
use Rattle.std.specs.Fmt.{decimal}
use Rattle.std.specs.Str.{chars, is_utf8, all_ascii_digits}
use Rattle.std.proofs.lemmas.Bool.Decides.{nat_tests}
use Rattle.std.proofs.lemmas.Fmt.{decimal_by_steps_wide, decimal_is_IsNumeral_wide}
use Rattle.std.proofs.lemmas.Str.{chars-IsAscii, IsUtf8-from_ascii, is_utf8-from_IsUtf8}
use Rattle.unicode_ident.specs.Ident.{is_xid_continue}
use Rattle.unicode_ident.proofs.Computing.{unicode_ident}
use Rattle.unicode_ident.proofs.IdentLemmas.{is_xid_continue-ascii}
use Rattle.sq_base.specs.declared.sort.Sort.{Sort}
use Rattle.sq_base.specs.declared.sort.Sort.TheVariants as sort
use Rattle.sq_token.specs.Kinds.{is_start, is_name, IsIdentifier, reserved_of}
use Rattle.std.proofs.lemmas.Bool.{and_from, and_parts}
use Rattle.sq_lex.proofs.Symbols.{ascii}
use Rattle.sq_print.specs.Names.{stem}
use Rattle.sq_sym.specs.Candidates.{candidate, candidate_count}

digits_pushed : (ds : List ℕ) (x : ℕ) → all_ascii_digits ds ≡ true → is_ascii_digit x ≡ true
    → all_ascii_digits (ds ++ x ∷ []) ≡ true
digits_pushed [] x e d = and_from (is_ascii_digit x) true d refl
digits_pushed (y ∷ ys) x e d =
    let parts = and_parts (is_ascii_digit y) (all_ascii_digits ys) e in
    and_from (is_ascii_digit y) (all_ascii_digits (ys ++ x ∷ [])) parts.0
    (digits_pushed ys x parts.1 d)

decimal_digits : (k : ℕ) → k < candidate_count → all_ascii_digits (decimal k) ≡ true
decimal_digits k w =
    decimal_by_steps_wide (λ n ds. all_ascii_digits ds ≡ true)
    (λ n h. let digit : is_ascii_digit (48 + n) ≡ true = grind (arith, nat_tests) in
    and_from (is_ascii_digit (48 + n)) true digit refl)
    (λ n ds h e. let small : n % 10 < 10 = omega arith in let digit : is_ascii_digit (48 + n % 10)
    ≡ true = grind (arith, nat_tests) in digits_pushed ds (48 + n % 10) e digit) k w

digits_continue : (ds : List ℕ) → all_ascii_digits ds ≡ true → list_all is_xid_continue ds ≡ true
digits_continue [] e = refl
digits_continue (d ∷ ds) e =
    let parts = and_parts (is_ascii_digit d) (all_ascii_digits ds) e in
    let digit = parts.0 in
    let low : d < 128 = grind (arith, nat_tests) in
    let here : is_xid_continue d ≡ true = is_xid_continue-ascii d low ∙ grind (arith, nat_tests) in
    and_from (is_xid_continue d) (list_all is_xid_continue ds) here (digits_continue ds parts.1)

digits_low : (ds : List ℕ) → all_ascii_digits ds ≡ true → list_all (λ b. nat_lt b 128) ds ≡ true
digits_low [] e = refl
digits_low (d ∷ ds) e =
    let parts = and_parts (is_ascii_digit d) (all_ascii_digits ds) e in
    let digit = parts.0 in
    let here : nat_lt d 128 ≡ true = grind (arith, nat_tests) in
    and_from (nat_lt d 128) (list_all (λ b. nat_lt b 128) ds) here (digits_low ds parts.1)

-- no reserved word is a stem and digits
unreserved_index : (d : ℕ) (ds : List ℕ) → is_ascii_digit d ≡ true
    → reserved_of (105 ∷ d ∷ ds) ≡ None
unfolding reserved_of
unreserved_index d ds e =
    let a : nat_eq 110 d ≡ false = grind (arith, nat_tests) in
    let b : nat_eq 102 d ≡ false = grind (arith, nat_tests) in
    rw (a, b) refl

unreserved_time : (d : ℕ) (ds : List ℕ) → is_ascii_digit d ≡ true
    → reserved_of (116 ∷ d ∷ ds) ≡ None
unfolding reserved_of
unreserved_time d ds e =
    let a : nat_eq 104 d ≡ false = grind (arith, nat_tests) in
    let b : nat_eq 114 d ≡ false = grind (arith, nat_tests) in
    let c : nat_eq 105 d ≡ false = grind (arith, nat_tests) in
    rw (a, b, c) refl

-- a letter and digits
lettered : (c : ℕ) (ds : List ℕ) → c < 128 → is_start c ≡ true → all_ascii_digits ds ≡ true
    → reserved_of (c ∷ ds) ≡ None → IsIdentifier (c ∷ ds)
lettered c ds low start digits free =
    let low_test : nat_lt c 128 ≡ true = grind (arith, nat_tests) in
    let all_low : list_all (λ b. nat_lt b 128) (c ∷ ds) ≡ true =
    and_from (nat_lt c 128) (list_all (λ b. nat_lt b 128) ds) low_test (digits_low ds digits) in
    let plain = ascii (c ∷ ds) all_low in
    let utf8 = is_utf8-from_IsUtf8 (c ∷ ds) (IsUtf8-from_ascii (c ∷ ds) plain) in
    let name : is_name (chars (c ∷ ds)) ≡ true = ap is_name (chars-IsAscii (c ∷ ds) plain)
    ∙ and_from (is_start c) (list_all is_xid_continue ds) start (digits_continue ds digits) in
    and_from (is_utf8 (c ∷ ds) && is_name (chars (c ∷ ds))) (is_none (reserved_of (c ∷ ds)))
    (and_from (is_utf8 (c ∷ ds)) (is_name (chars (c ∷ ds))) utf8 name) (ap is_none free)

index_starts : is_start 105 ≡ true
unfolding unicode_ident
index_starts = refl

time_starts : is_start 116 ≡ true
unfolding unicode_ident
time_starts = refl

index_bare : reserved_of (105 ∷ []) ≡ None
unfolding reserved_of
index_bare = refl

time_bare : reserved_of (116 ∷ []) ≡ None
unfolding reserved_of
time_bare = refl

numbered : (s : List ℕ) (k : ℕ) → candidate s (suc k) ≡ s ++ decimal (suc k)
numbered s k = let e : nat_eq (suc k) 0 ≡ false = grind (arith, nat_tests) in rw e refl

index_named : (k : ℕ) → k < candidate_count → IsIdentifier (candidate (codes "i") k)
index_named zero w = lettered 105 [] (omega arith) index_starts refl index_bare
index_named (suc k) w =
    subst IsIdentifier (sym (numbered (codes "i") k))
    (by (decimal (suc k)) (decimal_digits (suc k) w) (decimal_is_IsNumeral_wide (suc k) w).0.0)
  where
    by : (ds : List ℕ) → all_ascii_digits ds ≡ true → 0 < length ds → IsIdentifier (105 ∷ ds)
    by [] e h = absurd (omega arith)
    by (d ∷ ds) e h =
        lettered 105 (d ∷ ds) (omega arith) index_starts e
        (unreserved_index d ds (and_parts (is_ascii_digit d) (all_ascii_digits ds) e).0)

time_named : (k : ℕ) → k < candidate_count → IsIdentifier (candidate (codes "t") k)
time_named zero w = lettered 116 [] (omega arith) time_starts refl time_bare
time_named (suc k) w =
    subst IsIdentifier (sym (numbered (codes "t") k))
    (by (decimal (suc k)) (decimal_digits (suc k) w) (decimal_is_IsNumeral_wide (suc k) w).0.0)
  where
    by : (ds : List ℕ) → all_ascii_digits ds ≡ true → 0 < length ds → IsIdentifier (116 ∷ ds)
    by [] e h = absurd (omega arith)
    by (d ∷ ds) e h =
        lettered 116 (d ∷ ds) (omega arith) time_starts e
        (unreserved_time d ds (and_parts (is_ascii_digit d) (all_ascii_digits ds) e).0)

pub candidate_named : (s : Sort) (k : ℕ) → k < candidate_count → IsIdentifier (candidate (stem s) k)
candidate_named sort.Timestamp k w = time_named k w
candidate_named sort.Index k w = index_named k w
candidate_named sort.Message k w = index_named k w
candidate_named sort.Boolean k w = index_named k w
