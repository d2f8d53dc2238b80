-- Symbols and their texts.
use Rattle.std.proofs.Common.{◌≡◌, ℕ, zero, suc, ◌<◌, ◌≤◌, Bool, true, false, not, ◌&&◌, nat_eq}
use Rattle.std.proofs.Common.{nat_lt, List, [], ◌∷◌, ◌++◌, Some, None, length, take, refl, ap, sym}
use Rattle.std.proofs.Common.{arith}
use Rattle.std.specs.List.{starts_with, list_all}
use Rattle.std.specs.Char.{is_ascii_digit}
use Rattle.std.specs.Str.{IsAscii, IsUtf8}
use Rattle.std.proofs.lemmas.Bool.{and_parts}
use Rattle.std.proofs.lemmas.Bool.Decides.{nat_tests}
use Rattle.std.proofs.lemmas.Slice.Eq.{bytes_eq-Decides}
use Rattle.std.proofs.lemmas.Str.{IsUtf8-from_ascii}
use Rattle.std.proofs.Math.Seq.{take-append_seam}
use Rattle.unicode_ident.proofs.Computing.{unicode_ident}
use Rattle.sq_token.specs.declared.kind.Punctuation.{Punctuation}
use Rattle.sq_token.specs.declared.kind.Punctuation.TheVariants as m
use Rattle.sq_token.specs.Kinds.{is_start, punctuation_text}
use Rattle.sq_lex.specs.Characters.{is_blank}
use Rattle.sq_lex.specs.Pieces.{symbols, symbol_at}
use Rattle.sq_lex.proofs.Found.{found_passes, found_holds, all_fail, found_longest}

pub ascii : (bs : List ℕ) → list_all (λ b. nat_lt b 128) bs ≡ true → IsAscii bs
ascii [] e i = omega arith
ascii (b ∷ bs) e zero =
    let low = (and_parts (nat_lt b 128) (list_all (λ x. nat_lt x 128) bs) e).0 in
    grind (arith, nat_tests)
ascii (b ∷ bs) e (suc i) = ascii bs (and_parts _ _ e).1 i

-- ---- each symbol

-- a symbol is found by its text
pub symbol_of_text : (p : Punctuation) → symbol_at (punctuation_text p) ≡ Some p
unfolding symbol_at
symbol_of_text m.Dot = refl
symbol_of_text m.Comma = refl
symbol_of_text m.Colon = refl
symbol_of_text m.Semicolon = refl
symbol_of_text m.Equals = refl
symbol_of_text m.Differs = refl
symbol_of_text m.Less = refl
symbol_of_text m.Greater = refl
symbol_of_text m.AtMost = refl
symbol_of_text m.Implies = refl
symbol_of_text m.LeftArrow = refl
symbol_of_text m.OpenParenthesis = refl
symbol_of_text m.CloseParenthesis = refl
symbol_of_text m.OpenBracket = refl
symbol_of_text m.CloseBracket = refl
symbol_of_text m.And = refl
symbol_of_text m.Or = refl
symbol_of_text m.Bar = refl
symbol_of_text m.Repeat = refl
symbol_of_text m.At = refl
symbol_of_text m.Arrow = refl

pub one_symbol : (p q : Punctuation) → punctuation_text p ≡ punctuation_text q → p ≡ q
one_symbol p q e =
    let first = symbol_of_text p in
    let second = symbol_of_text q in
    let same = ap symbol_at e in
    cc

-- what holds of all symbols of the list holds of each symbol
every_symbol : (holds : Punctuation → Bool) → list_all holds symbols ≡ true → (p : Punctuation)
    → holds p ≡ true
unfolding symbol_at
every_symbol holds all p =
    found_holds (λ q. starts_with nat_eq (punctuation_text p) (punctuation_text q)) holds symbols p
    (symbol_of_text p) all

pub symbol_utf8 : (p : Punctuation) → IsUtf8 (punctuation_text p)
symbol_utf8 p =
    IsUtf8-from_ascii (punctuation_text p)
    (ascii (punctuation_text p)
    (every_symbol (λ q. list_all (λ b. nat_lt b 128) (punctuation_text q)) refl p))

-- the text begins with a byte that begins no blank, name or number
abbrev pub is_plain : List ℕ → Bool
is_plain [] = false
is_plain (b ∷ bs) =
    (nat_lt b 128 && not (is_blank b)) && (not (is_start b) && not (is_ascii_digit b))

pub symbol_plain : (p : Punctuation) → is_plain (punctuation_text p) ≡ true
unfolding unicode_ident
symbol_plain p = every_symbol (λ q. is_plain (punctuation_text q)) refl p

plain_some : (text : List ℕ) → is_plain text ≡ true → 0 < length text
plain_some [] e = cc
plain_some (b ∷ bs) e = omega arith

pub symbol_some : (p : Punctuation) → 0 < length (punctuation_text p)
symbol_some p = plain_some (punctuation_text p) (symbol_plain p)

-- ---- the symbol in front of a text

begins_with : (bs text : List ℕ) → starts_with nat_eq bs text ≡ true → take (length text) bs ≡ text
begins_with bs text e = sym ((bytes_eq-Decides text (take (length text) bs)).0 e)

pub symbol_begins : (bs : List ℕ) (p : Punctuation) → symbol_at bs ≡ Some p
    → take (length (punctuation_text p)) bs ≡ punctuation_text p
unfolding symbol_at
symbol_begins bs p e =
    begins_with bs (punctuation_text p)
    (found_passes (λ q. starts_with nat_eq bs (punctuation_text q)) symbols p e)

text_begins : (text rest : List ℕ) → starts_with nat_eq (text ++ rest) text ≡ true
text_begins text rest =
    (bytes_eq-Decides text (take (length text) (text ++ rest))).1 (sym (take-append_seam text rest))

pub symbol_there : (p : Punctuation) (rest : List ℕ) → symbol_at (punctuation_text p ++ rest) ≡ None
    → ⊥
unfolding symbol_at
symbol_there p rest e =
    let text = punctuation_text p ++ rest in
    let fails = found_holds (λ q. starts_with nat_eq (punctuation_text p) (punctuation_text q))
    (λ q. not (starts_with nat_eq text (punctuation_text q))) symbols p (symbol_of_text p)
    (all_fail (λ q. starts_with nat_eq text (punctuation_text q)) symbols e) in
    let passes = ap not (text_begins (punctuation_text p) rest) in
    cc

-- the symbols stand in the list with the longer ones first
pub symbol_longest : (p q : Punctuation) (rest : List ℕ)
    → symbol_at (punctuation_text p ++ rest) ≡ Some q
    → length (punctuation_text p) ≤ length (punctuation_text q)
unfolding symbol_at
symbol_longest p q rest e =
    found_longest (λ r. length (punctuation_text r))
    (λ r. starts_with nat_eq (punctuation_text p ++ rest) (punctuation_text r))
    (λ r. starts_with nat_eq (punctuation_text p) (punctuation_text r))
    symbols q p refl e (symbol_of_text p) (text_begins (punctuation_text p) rest)
