-- A piece is at least as long as each token that the text begins with.
use Rattle.std.proofs.Common.{◌≡◌, ℕ, ◌≤◌, ◌^◌, Bool, true, false, ◌&&◌, nat_lt, List, [], ◌∷◌}
use Rattle.std.proofs.Common.{◌++◌, Option, Some, None, IsTrue, is_none, length, take, drop}
use Rattle.std.proofs.Common.{slice_index, refl, sym, subst, arith, chars}
use Rattle.std.specs.Prelude.{if◌then◌else◌}
use Rattle.std.specs.Bool.{⊤}
use Rattle.std.specs.Char.{is_ascii_digit}
use Rattle.std.specs.Str.{IsUtf8, is_utf8, all_ascii_digits}
use Rattle.std.proofs.lemmas.Bool.{and_parts}
use Rattle.std.proofs.lemmas.Str.{IsUtf8-from_is_utf8}
use Rattle.std.proofs.lemmas.List.{take-append-drop, length-take-le}
use Rattle.std.proofs.lemmas.Slice.Eq.{bytes_eq-Decides}
use Rattle.sq_token.specs.declared.kind.Punctuation.{Punctuation}
use Rattle.sq_token.specs.declared.kind.TokenKind.{TokenKind}
use Rattle.sq_token.specs.declared.kind.TokenKind.TheVariants as kind
use Rattle.sq_token.specs.Kinds.{is_name, is_of_kind, is_number, number_value, reserved_of}
use Rattle.sq_token.specs.Kinds.{reserved_text, punctuation_text}
use Rattle.sq_lex.specs.declared.piece.Piece.{Piece}
use Rattle.sq_lex.specs.declared.piece.Piece.TheVariants.{Spacing, Token, OpenComment, Wide, Bad}
use Rattle.sq_lex.specs.Characters.{opens}
use Rattle.sq_lex.specs.Pieces.{commented, digits, symbol_at, symbol, piece}
use Rattle.sq_lex.specs.Standing.{HasNoLongerToken}
use Rattle.sq_lex.proofs.Fronts.{comment_piece, name_piece, number_piece, mark_piece}
use Rattle.sq_lex.proofs.Names.{name_least, name_some}
use Rattle.sq_lex.proofs.Numbers.{digits_least}
use Rattle.sq_lex.proofs.Symbols.{is_plain, symbol_plain, symbol_there, symbol_longest}
use Rattle.sq_lex.proofs.Words.{reserved_name, reserved_utf8}

-- what stands there is no token shorter than n bytes, and it is not nothing
abbrev pub IsAtLeast : ℕ → Piece → Type 0
IsAtLeast n (Spacing m) = ⊤
IsAtLeast n (Token k m) = n ≤ m
IsAtLeast n OpenComment = ⊤
IsAtLeast n Wide = ⊤
IsAtLeast n Bad = ⊥

commented_least : (n : ℕ) (o : Option ℕ) → IsAtLeast n (commented o)
commented_least n None = tt
commented_least n (Some m) = tt

digits_piece_least : (n m : ℕ) (bs : List ℕ) → n ≤ m → IsAtLeast n (digits m bs)
digits_piece_least n m bs h = by (nat_lt (number_value (take m bs)) (2 ^ 128))
  where
    by : (t : Bool) → IsAtLeast n (if t then Token kind.Number m else Wide)
    by true = h
    by false = tt

-- ---- the kinds

name_text_least : (text rest : List ℕ) → IsUtf8 text → is_name (chars text) ≡ true
    → IsAtLeast (length text) (piece (text ++ rest))
name_text_least text rest u e =
    let le = name_least text rest u e in
    let some = name_some text e in
    subst (IsAtLeast (length text)) (sym (name_piece (text ++ rest) (omega arith))) le

number_least : (text rest : List ℕ) → is_number text ≡ true
    → IsAtLeast (length text) (piece (text ++ rest))
number_least [] rest e = cc
number_least (b ∷ bs) rest e =
    let all = (and_parts (all_ascii_digits (b ∷ bs)) _ e).0 in
    let first = (and_parts (is_ascii_digit b) (all_ascii_digits bs) all).0 in
    let long = digits_least (b ∷ bs) rest all in
    subst (IsAtLeast (length (b ∷ bs))) (sym (number_piece b (bs ++ rest) first))
    (digits_piece_least (length (b ∷ bs)) _ (b ∷ bs ++ rest) long)

symbol_least : (p : Punctuation) (rest : List ℕ)
    → IsAtLeast (length (punctuation_text p)) (symbol (symbol_at (punctuation_text p ++ rest)))
symbol_least p rest = by (symbol_at (punctuation_text p ++ rest)) refl
  where
    by : (o : Option Punctuation) → symbol_at (punctuation_text p ++ rest) ≡ o
        → IsAtLeast (length (punctuation_text p)) (symbol o)
    by None e = absurd (symbol_there p rest e)
    by (Some q) e = symbol_longest p q rest e

-- where a text begins with a mark, its symbol is the piece, or a comment is
mark_least : (n b : ℕ) (bs : List ℕ) → is_plain (b ∷ bs) ≡ true
    → IsAtLeast n (symbol (symbol_at (b ∷ bs))) → IsAtLeast n (piece (b ∷ bs))
mark_least n b bs e h = by (opens b (slice_index bs 0)) refl
  where
    by : (o : Bool) → opens b (slice_index bs 0) ≡ o → IsAtLeast n (piece (b ∷ bs))
    by true f = subst (IsAtLeast n) (sym (comment_piece b bs f)) (commented_least n _)
    by false f = subst (IsAtLeast n) (sym (mark_piece b bs e f)) h

mark_text_least : (p : Punctuation) (rest : List ℕ)
    → IsAtLeast (length (punctuation_text p)) (piece (punctuation_text p ++ rest))
mark_text_least p rest = by (punctuation_text p) (symbol_plain p) (symbol_least p rest)
  where
    by : (text : List ℕ) → is_plain text ≡ true
        → IsAtLeast (length text) (symbol (symbol_at (text ++ rest)))
        → IsAtLeast (length text) (piece (text ++ rest))
    by [] q h = cc
    by (b ∷ bs) q h = mark_least (length (b ∷ bs)) b (bs ++ rest) q h

-- where the text of a token stands, a piece at least as long is read
pub token_least : (k : TokenKind) (text rest : List ℕ) → IsTrue (is_of_kind k text)
    → IsAtLeast (length text) (piece (text ++ rest))
token_least kind.Identifier text rest e =
    let parts = and_parts (is_utf8 text && is_name (chars text)) (is_none (reserved_of text)) e in
    let front = and_parts (is_utf8 text) (is_name (chars text)) parts.0 in
    name_text_least text rest (IsUtf8-from_is_utf8 text front.0) front.1
token_least (kind.Reserved w) text rest e =
    let same : text ≡ reserved_text w = (bytes_eq-Decides text (reserved_text w)).0 e in
    subst (λ t. IsAtLeast (length t) (piece (t ++ rest))) (sym same)
    (name_text_least (reserved_text w) rest (reserved_utf8 w) (reserved_name w))
token_least kind.Number text rest e = number_least text rest e
token_least (kind.Punctuation p) text rest e =
    let same : text ≡ punctuation_text p = (bytes_eq-Decides text (punctuation_text p)).0 e in
    subst (λ t. IsAtLeast (length t) (piece (t ++ rest))) (sym same) (mark_text_least p rest)

-- ---- the longest token

front_least : (k : TokenKind) (m : ℕ) (bs : List ℕ) → m ≤ length bs
    → IsTrue (is_of_kind k (take m bs)) → IsAtLeast m (piece bs)
front_least k m bs le is =
    let there = token_least k (take m bs) (drop m bs) is in
    let len : length (take m bs) ≡ m = length-take-le m bs le in
    let whole : take m bs ++ drop m bs ≡ bs = take-append-drop m bs in
    subst (λ n. IsAtLeast n (piece bs)) len
    (subst (λ t. IsAtLeast (length (take m bs)) (piece t)) whole there)

-- no front of the text that is longer than the token found is a token
pub token_longest : (k : TokenKind) (n : ℕ) (bs : List ℕ) → Token k n ≡ piece bs
    → HasNoLongerToken n bs
token_longest k n bs e = λ j m h le is.
    let found : m ≤ n = subst (IsAtLeast m) (sym e) (front_least j m bs le is) in
    absurd (omega arith)

-- nor is any front where nothing is found
pub none_longest : (bs : List ℕ) → Bad ≡ piece bs → HasNoLongerToken 0 bs
none_longest bs e = λ k m h le is. subst (IsAtLeast m) (sym e) (front_least k m bs le is)
