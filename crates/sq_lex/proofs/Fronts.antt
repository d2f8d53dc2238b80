-- Which piece is read at the front of a text.
use Rattle.std.proofs.Common.{◌≡◌, ℕ, ◌<◌, ◌^◌, Bool, true, false, not, ◌&&◌, nat_lt, List, [], ◌∷◌}
use Rattle.std.proofs.Common.{Option, Some, None, length, take, drop, slice_index, refl, sym, subst}
use Rattle.std.proofs.Common.{arith, chars}
use Rattle.std.specs.Prelude.{if◌then◌else◌}
use Rattle.std.specs.Char.{is_ascii_digit}
use Rattle.std.specs.List.{prefix_len}
use Rattle.std.proofs.lemmas.Bool.{and_parts, not-true}
use Rattle.std.proofs.lemmas.Bool.Decides.{nat_tests}
use Rattle.std.proofs.lemmas.Str.{chars-nil}
use Rattle.sq_token.specs.declared.kind.Punctuation.{Punctuation}
use Rattle.sq_token.specs.declared.kind.TokenKind.{TokenKind}
use Rattle.sq_token.specs.declared.kind.TokenKind.TheVariants as kind
use Rattle.sq_token.specs.Kinds.{is_start, number_value, punctuation_text, reserved_of}
use Rattle.sq_lex.specs.declared.piece.Piece.{Piece}
use Rattle.sq_lex.specs.declared.piece.Piece.TheVariants.{Spacing, Token, OpenComment, Wide, Bad}
use Rattle.sq_lex.specs.Characters.{is_blank, opens}
use Rattle.sq_lex.specs.Pieces.{comment_len, commented, name_len, word, word_kind, digits, symbol}
use Rattle.sq_lex.specs.Pieces.{symbol_at, piece}
use Rattle.sq_lex.proofs.FirstBytes.{blank_no_name, open_no_name, digit_no_name, digit_no_blank}
use Rattle.sq_lex.proofs.FirstBytes.{digit_no_open, opening_bytes, name_none}
use Rattle.sq_lex.proofs.Symbols.{is_plain}

-- ---- by what begins the text

pub blank_piece : (b : ℕ) (bs : List ℕ) → is_blank b ≡ true → piece (b ∷ bs) ≡ Spacing 1
blank_piece b bs e = rw e refl

pub comment_piece : (b : ℕ) (bs : List ℕ) → opens b (slice_index bs 0) ≡ true
    → piece (b ∷ bs) ≡ commented (comment_len 0 2 (drop 1 bs))
comment_piece b bs e =
    let first = (opening_bytes b (slice_index bs 0) e).0 in
    let no_blank : is_blank b ≡ false = grind (arith, nat_tests) in
    rw (no_blank, e) refl

pub name_piece : (bs : List ℕ) → 0 < name_len (chars bs)
    → piece bs ≡ word (name_len (chars bs)) bs
name_piece [] h = let none : name_len (chars []) ≡ 0 = rw chars-nil refl in absurd (omega arith)
name_piece (b ∷ bs) h = by (is_blank b) (opens b (slice_index bs 0)) refl refl
  where
    by : (t o : Bool) → is_blank b ≡ t → opens b (slice_index bs 0) ≡ o
        → piece (b ∷ bs) ≡ word (name_len (chars (b ∷ bs))) (b ∷ bs)
    by true o e f = let none = blank_no_name b bs e in absurd (omega arith)
    by false true e f =
        let none = open_no_name b (slice_index bs 0) bs f in absurd (omega arith)
    by false false e f =
        let some : nat_lt 0 (name_len (chars (b ∷ bs))) ≡ true = grind (arith, nat_tests) in
        rw (e, f, some) refl

pub number_piece : (b : ℕ) (bs : List ℕ) → is_ascii_digit b ≡ true
    → piece (b ∷ bs) ≡ digits (prefix_len is_ascii_digit (b ∷ bs)) (b ∷ bs)
number_piece b bs e =
    rw (digit_no_blank b e, digit_no_open b (slice_index bs 0) e, digit_no_name b bs e, e) refl

pub mark_piece : (b : ℕ) (bs : List ℕ) → is_plain (b ∷ bs) ≡ true
    → opens b (slice_index bs 0) ≡ false → piece (b ∷ bs) ≡ symbol (symbol_at (b ∷ bs))
mark_piece b bs e f =
    let parts =
    and_parts (nat_lt b 128 && not (is_blank b)) (not (is_start b) && not (is_ascii_digit b)) e in
    let low = and_parts (nat_lt b 128) (not (is_blank b)) parts.0 in
    let others = and_parts (not (is_start b)) (not (is_ascii_digit b)) parts.1 in
    let no_blank = not-true (is_blank b) low.1 in
    let no_digit = not-true (is_ascii_digit b) others.1 in
    let small : b < 128 = grind (arith, nat_tests) in
    let no_name = name_none b bs small (not-true (is_start b) others.0) in
    rw (no_blank, f, no_name, no_digit) refl

-- ---- all that may begin it

-- what begins a text that is not empty, by the piece that is read there
pub data Front (b : ℕ) (bs : List ℕ) : Piece → Type 0 where
  blank : is_blank b ≡ true → Front b bs (Spacing 1)
  comment : (n : ℕ) → opens b (slice_index bs 0) ≡ true → comment_len 0 2 (drop 1 bs) ≡ Some n
      → Front b bs (Spacing n)
  unclosed : opens b (slice_index bs 0) ≡ true → comment_len 0 2 (drop 1 bs) ≡ None
      → Front b bs OpenComment
  name : (n : ℕ) (k : TokenKind) → 0 < n → n ≡ name_len (chars (b ∷ bs))
      → k ≡ word_kind (reserved_of (take n (b ∷ bs))) → Front b bs (Token k n)
  number : (n : ℕ) → is_ascii_digit b ≡ true → n ≡ prefix_len is_ascii_digit (b ∷ bs)
      → nat_lt (number_value (take n (b ∷ bs))) (2 ^ 128) ≡ true → Front b bs (Token kind.Number n)
  wide : (n : ℕ) → is_ascii_digit b ≡ true → n ≡ prefix_len is_ascii_digit (b ∷ bs)
      → nat_lt (number_value (take n (b ∷ bs))) (2 ^ 128) ≡ false → Front b bs Wide
  mark : (p : Punctuation) → symbol_at (b ∷ bs) ≡ Some p
      → Front b bs (Token (kind.Punctuation p) (length (punctuation_text p)))
  nothing : is_blank b ≡ false → opens b (slice_index bs 0) ≡ false → Front b bs Bad

pub front : (b : ℕ) (bs : List ℕ) → Front b bs (piece (b ∷ bs))
front b bs =
    by (is_blank b) (opens b (slice_index bs 0)) (nat_lt 0 (name_len (chars (b ∷ bs))))
    (is_ascii_digit b) refl refl refl refl
  where
    made : (q : Piece) → piece (b ∷ bs) ≡ q → Front b bs q → Front b bs (piece (b ∷ bs))
    made q e is = subst (Front b bs) (sym e) is

    commented_front : opens b (slice_index bs 0) ≡ true → (o : Option ℕ)
        → comment_len 0 2 (drop 1 bs) ≡ o → Front b bs (commented o)
    commented_front e None f = unclosed e f
    commented_front e (Some n) f = comment n e f

    digits_front : (n : ℕ) → is_ascii_digit b ≡ true → n ≡ prefix_len is_ascii_digit (b ∷ bs)
        → (t : Bool) → nat_lt (number_value (take n (b ∷ bs))) (2 ^ 128) ≡ t
        → Front b bs (if t then Token kind.Number n else Wide)
    digits_front n e f true g = number n e f g
    digits_front n e f false g = wide n e f g

    symbol_front : is_blank b ≡ false → opens b (slice_index bs 0) ≡ false
        → (o : Option Punctuation) → symbol_at (b ∷ bs) ≡ o → Front b bs (symbol o)
    symbol_front e f None g = nothing e f
    symbol_front e f (Some p) g = mark p g

    by : (t o s d : Bool) → is_blank b ≡ t → opens b (slice_index bs 0) ≡ o
        → nat_lt 0 (name_len (chars (b ∷ bs))) ≡ s → is_ascii_digit b ≡ d
        → Front b bs (piece (b ∷ bs))
    by true o s d e f g h = made _ (blank_piece b bs e) (blank e)
    by false true s d e f g h = made _ (comment_piece b bs f) (commented_front f _ refl)
    by false false true d e f g h =
        let some : 0 < name_len (chars (b ∷ bs)) = grind (arith, nat_tests) in
        made _ (name_piece (b ∷ bs) some) (name (name_len (chars (b ∷ bs))) _ some refl refl)
    by false false false true e f g h =
        made _ (number_piece b bs h) (digits_front _ h refl _ refl)
    by false false false false e f g h =
        made (symbol (symbol_at (b ∷ bs))) (rw (e, f, g, h) refl) (symbol_front e f _ refl)
