-- Identifiers and goal lines.
use Rattle.std.proofs.Common.{◌≡◌, ◌≢◌, ◌<◌, ◌≤◌, ℕ, suc, Bool, true, false, ◌&&◌, ◌||◌, ◌==◌}
use Rattle.std.proofs.Common.{nat_eq, nat_le, nat_lt, List, [], ◌∷◌, length, chars, get_or}
use Rattle.std.proofs.Common.{None}
use Rattle.std.proofs.Common.{refl, sym, ap, ◌∙◌, arith}
use Rattle.std.specs.Char.{is_ascii_alphanumeric}
use Rattle.std.specs.Option.{is_none}
use Rattle.std.specs.Str.{IsUtf8, is_utf8, NonePass, NoCharPasses}
use Rattle.std.proofs.lemmas.Str.{IsUtf8-from_is_utf8, is_utf8-from_IsUtf8, encodes-chars}
use Rattle.std.proofs.lemmas.Str.{NoCharPasses-byte}
use Rattle.sq_cert_words.proofs.LineLaws.{IsUnparted}
use Rattle.std.specs.List.{list_all}
use Rattle.std.proofs.lemmas.Bool.Decides.{nat_tests}
use Rattle.unicode_ident.specs.Ident.{is_xid_start, is_xid_continue}
use Rattle.unicode_ident.proofs.IdentLemmas.{is_xid_continue-ascii, is_xid_start-is_xid_continue}
use Rattle.sq_token.specs.Kinds.{is_start, is_name, is_identifier, reserved_of}
use Rattle.sq_cert.specs.Certificates.{begins, is_name_alone, goal_in}
use Rattle.sq_cert.proofs.LineLists.{both}

start-continues : (c : ℕ) → is_start c ≡ true → is_xid_continue c ≡ true
start-continues c h = by (is_xid_start c) refl h
  where
    by : (b : Bool) → is_xid_start c ≡ b → (b || nat_eq c 95) ≡ true → is_xid_continue c ≡ true
    by true e q = is_xid_start-is_xid_continue c e
    by false e q = let same : c ≡ 95 = grind (arith, nat_tests) in ap is_xid_continue same
        ∙ is_xid_continue-ascii 95 (omega arith)

pub name-split : (cs : List ℕ) → is_name cs ≡ (begins cs && list_all is_xid_continue cs)
name-split [] = refl
name-split (c ∷ cs) = by (is_start c) refl
  where
    by : (b : Bool) → is_start c ≡ b
        → (b && list_all is_xid_continue cs)
        ≡ (b && (is_xid_continue c && list_all is_xid_continue cs))
    by true e = rw (start-continues c e)
    by false e = refl

pub goal-longer : (g n c : List ℕ) (ws : List (List ℕ)) → ws ≢ [] → goal_in (g ∷ n ∷ c ∷ ws) ≡ None
goal-longer g n c [] some = absurd (some refl)
goal-longer g n c (w ∷ ws) some = refl

pub identifier-utf8 : (text : List ℕ) → IsUtf8 text
    → is_identifier text ≡ is_name_alone (chars text) text
identifier-utf8 text h = let e : is_utf8 text ≡ true = is_utf8-from_IsUtf8 text h in rw e

pub identifier-none : (text : List ℕ) → ¬ (IsUtf8 text) → is_identifier text ≡ false
identifier-none text h = by (is_utf8 text) refl
  where
    by : (b : Bool) → is_utf8 text ≡ b
        → (b && is_name (chars text) && is_none (reserved_of text)) ≡ false
    by true e = absurd (h (IsUtf8-from_is_utf8 text e))
    by false e = refl

pub ruleset name_rules = (name-split)

pub ruleset identifier_rules = (identifier-utf8, identifier-none)

pub ruleset goal_rules = (goal-longer)

-- ---- no blank and no newline stands in an identifier

letter_above : (c : ℕ) → is_xid_continue c ≡ true → nat_le c 32 ≡ false
letter_above c h = by (nat_le c 32) refl
  where
    by : (b : Bool) → nat_le c 32 ≡ b → b ≡ false
    by false e = refl
    by true e =
        let low : c ≤ 32 = grind (arith, nat_tests) in
        let known = is_xid_continue-ascii c (omega arith) in
        let none : (is_ascii_alphanumeric c || (c == 95)) ≡ false = grind (arith, nat_tests) in
        cc

none_low : (cs : List ℕ) → list_all is_xid_continue cs ≡ true → NonePass (λ c. nat_le c 32) cs
none_low [] h = tt
none_low (c ∷ cs) h =
    let parts = both (is_xid_continue c) (list_all is_xid_continue cs) h in
    (letter_above c parts.0, none_low cs parts.1)

unparted_by : (bs : List ℕ) → ((i : ℕ) → i < length bs → nat_lt 32 (get_or bs i 0) ≡ true)
    → IsUnparted bs
unparted_by [] h = tt
unparted_by (b ∷ bs) h = (h 0 (omega arith), unparted_by bs (λ i less. h (suc i) (omega arith)))

byte_above : (bs : List ℕ) (i : ℕ) → NoCharPasses (λ c. nat_le c 32) bs → i < length bs
    → nat_lt 32 (get_or bs i 0) ≡ true
byte_above bs i none within = by (nat_lt (get_or bs i 0) 128) refl
  where
    by : (b : Bool) → nat_lt (get_or bs i 0) 128 ≡ b → nat_lt 32 (get_or bs i 0) ≡ true
    by true e =
        let low : get_or bs i 0 < 128 = grind (arith, nat_tests) in
        let above : nat_le (get_or bs i 0) 32 ≡ false =
        NoCharPasses-byte (λ c. nat_le c 32) bs i none within low in
        grind (arith, nat_tests)
    by false e = grind (arith, nat_tests)

pub identifier_unparted : (text : List ℕ) → is_identifier text ≡ true → IsUnparted text
identifier_unparted text h =
    let front = both (is_utf8 text && is_name (chars text)) (is_none (reserved_of text)) h in
    let parts = both (is_utf8 text) (is_name (chars text)) front.0 in
    let named : (begins (chars text) && list_all is_xid_continue (chars text)) ≡ true =
    sym (name-split (chars text)) ∙ parts.1 in
    let all = (both (begins (chars text)) (list_all is_xid_continue (chars text)) named).1 in
    let utf8 = IsUtf8-from_is_utf8 text parts.0 in
    let none : NoCharPasses (λ c. nat_le c 32) text =
    (chars text, encodes-chars text utf8, none_low (chars text) all) in
    unparted_by text (λ i within. byte_above text i none within)
