-- A piece is within the text, may be cut off, and a token's text is one of its kind.
use Rattle.std.proofs.Common.{◌≡◌, ℕ, suc, ◌+◌, ◌<◌, ◌≤◌, ◌^◌, true, nat_lt, List, [], ◌∷◌, Option}
use Rattle.std.proofs.Common.{Some, None, IsTrue, is_none, length, take, drop, get_or, slice_index}
use Rattle.std.proofs.Common.{refl, ap, ◌∙◌, sym, subst, arith, chars}
use Rattle.std.specs.Bool.{⊤}
use Rattle.std.specs.List.{prefix_len}
use Rattle.std.specs.Char.{is_ascii_digit}
use Rattle.std.specs.Str.{IsUtf8, IsCharBoundary, all_ascii_digits}
use Rattle.std.proofs.lemmas.Bool.{and_from}
use Rattle.std.proofs.lemmas.List.{length-take, length-take-le}
use Rattle.std.proofs.lemmas.Slice.Eq.{bytes_eq-Decides}
use Rattle.std.proofs.lemmas.Str.{IsCharBoundary-after_ascii, IsCharBoundary-from_take}
use Rattle.std.proofs.lemmas.Str.{is_utf8-from_IsUtf8}
use Rattle.sq_token.specs.declared.kind.Reserved.{Reserved}
use Rattle.sq_token.specs.declared.kind.Punctuation.{Punctuation}
use Rattle.sq_token.specs.declared.kind.TokenKind.{TokenKind}
use Rattle.sq_token.specs.declared.kind.TokenKind.TheVariants as kind
use Rattle.sq_token.specs.Kinds.{is_of_kind, is_name, number_value, reserved_of, reserved_text}
use Rattle.sq_token.specs.Kinds.{punctuation_text}
use Rattle.sq_token.proofs.Words.{text_of_found}
use Rattle.sq_lex.specs.declared.piece.Piece.{Piece}
use Rattle.sq_lex.specs.declared.piece.Piece.TheVariants.{Spacing, Token, OpenComment, Wide, Bad}
use Rattle.sq_lex.specs.Characters.{is_blank, opens}
use Rattle.sq_lex.specs.Pieces.{comment_len, name_len, word_kind, symbol_at, piece}
use Rattle.sq_lex.proofs.Comments.{comment_closed, closed_end}
use Rattle.sq_lex.proofs.FirstBytes.{blank_small, opening_bytes}
use Rattle.sq_lex.proofs.Fronts
use Rattle.sq_lex.proofs.Names.{name_text, name_boundary, name_take}
use Rattle.sq_lex.proofs.Numbers.{prefix_len-le, digits_front, digits_boundary, number_made}
use Rattle.sq_lex.proofs.Symbols.{symbol_utf8, symbol_some, symbol_begins}

abbrev pub IsFit : Piece → List ℕ → Type 0
IsFit (Spacing n) bs = (1 ≤ n) × IsCharBoundary bs n
IsFit (Token k n) bs = (1 ≤ n) × IsCharBoundary bs n × IsTrue (is_of_kind k (take n bs))
IsFit OpenComment bs = ⊤
IsFit Wide bs = ⊤
IsFit Bad bs = ⊤

-- ---- blanks and comments

blank_fits : (b : ℕ) (bs : List ℕ) → IsUtf8 (b ∷ bs) → is_blank b ≡ true
    → IsFit (Spacing 1) (b ∷ bs)
blank_fits b bs u e =
    (omega arith, IsCharBoundary-after_ascii (b ∷ bs) 0 u (omega arith) (blank_small b e))

comment_fits : (b : ℕ) (bs : List ℕ) (n : ℕ) → IsUtf8 (b ∷ bs)
    → opens b (slice_index bs 0) ≡ true → comment_len 0 2 (drop 1 bs) ≡ Some n
    → IsFit (Spacing n) (b ∷ bs)
comment_fits b [] n u e f =
    let star = (opening_bytes b (slice_index [] 0) e).1 in
    absurd (omega (arith, star))
comment_fits b (c ∷ cs) n u e f =
    let r = comment_closed 0 2 cs n f in
    let before : ℕ = suc (suc r.before) in
    let end = closed_end 0 2 cs n r in
    let low : get_or (b ∷ c ∷ cs) before 0 < 128 = omega (arith, end) in
    let there : before < length (b ∷ c ∷ cs) = omega (arith, r.within) in
    let len : n ≡ before + 1 = omega (arith, r.len) in
    let boundary = IsCharBoundary-after_ascii (b ∷ c ∷ cs) before u there low in
    (omega arith, subst (IsCharBoundary (b ∷ c ∷ cs)) (sym len) boundary)

-- ---- tokens

word_of_kind : (text : List ℕ) (o : Option Reserved) → reserved_of text ≡ o → IsUtf8 text
    → is_name (chars text) ≡ true → IsTrue (is_of_kind (word_kind o) text)
word_of_kind text None e u h =
    and_from _ _ (and_from _ _ (is_utf8-from_IsUtf8 text u) h) (ap is_none e)
word_of_kind text (Some r) e u h =
    (bytes_eq-Decides text (reserved_text r)).1 (text_of_found text r e)

name_fits : (bs : List ℕ) (n : ℕ) (k : TokenKind) → IsUtf8 bs → 0 < n → n ≡ name_len (chars bs)
    → k ≡ word_kind (reserved_of (take n bs)) → IsFit (Token k n) bs
name_fits bs n k u h e same =
    let some : 0 < name_len (chars bs) = omega arith in
    let r = name_text bs u some in
    let cut : take n bs ≡ r.front = ap (λ m. take m bs) e ∙ name_take bs u some in
    let named = ap (λ t. is_name (chars t)) cut ∙ r.name in
    let boundary = subst (IsCharBoundary bs) (sym e) (name_boundary bs u some) in
    let text_utf8 = subst IsUtf8 (sym cut) r.front_utf8 in
    let of_kind = word_of_kind (take n bs) (reserved_of (take n bs)) refl text_utf8 named in
    (omega arith, boundary, rw same of_kind)

number_fits : (bs : List ℕ) (n : ℕ) → IsUtf8 bs → 0 < n → n ≡ prefix_len is_ascii_digit bs
    → nat_lt (number_value (take n bs)) (2 ^ 128) ≡ true → IsFit (Token kind.Number n) bs
number_fits bs n u h e small =
    let all : all_ascii_digits (take n bs) ≡ true =
    ap (λ k. all_ascii_digits (take k bs)) e ∙ digits_front bs in
    let le : n ≤ length bs = omega (arith, prefix_len-le is_ascii_digit bs) in
    let some : 0 < length (take n bs) = omega (arith, length-take-le n bs le) in
    (omega arith, digits_boundary bs n u h e, number_made (take n bs) some all small)

mark_fits : (bs : List ℕ) (p : Punctuation) → IsUtf8 bs → symbol_at bs ≡ Some p
    → IsFit (Token (kind.Punctuation p) (length (punctuation_text p))) bs
mark_fits bs p u e =
    let text = punctuation_text p in
    let cut : take (length text) bs ≡ text = symbol_begins bs p e in
    let le : length text ≤ length bs = omega (arith, ap length cut, length-take (length text) bs) in
    let front_utf8 : IsUtf8 (take (length text) bs) = subst IsUtf8 (sym cut) (symbol_utf8 p) in
    let of_kind = (bytes_eq-Decides (take (length text) bs) text).1 cut in
    let some = symbol_some p in
    (omega arith, IsCharBoundary-from_take bs (length text) u le front_utf8, of_kind)

-- ---- pieces

pub piece_fits : (bs : List ℕ) → IsUtf8 bs → IsFit (piece bs) bs
piece_fits [] u = tt
piece_fits (b ∷ bs) u = by (piece (b ∷ bs)) (Fronts.front b bs)
  where
    by : (q : Piece) → Fronts.Front b bs q → IsFit q (b ∷ bs)
    by _ (Fronts.blank e) = blank_fits b bs u e
    by _ (Fronts.comment n e f) = comment_fits b bs n u e f
    by _ (Fronts.unclosed e f) = tt
    by _ (Fronts.name n k some e same) = name_fits (b ∷ bs) n k u some e same
    by _ (Fronts.number n e f small) =
        let some : 0 < prefix_len is_ascii_digit (b ∷ bs) = rw e (omega arith) in
        number_fits (b ∷ bs) n u (omega arith) f small
    by _ (Fronts.wide n e f large) = tt
    by _ (Fronts.mark p e) = mark_fits (b ∷ bs) p u e
    by _ (Fronts.nothing e f) = tt

pub spacing_fit : (bs : List ℕ) (n : ℕ) → IsUtf8 bs → Spacing n ≡ piece bs
    → (1 ≤ n) × IsCharBoundary bs n
spacing_fit bs n u e = subst (λ q. IsFit q bs) (sym e) (piece_fits bs u)

pub token_fit : (bs : List ℕ) (k : TokenKind) (n : ℕ) → IsUtf8 bs → Token k n ≡ piece bs
    → (1 ≤ n) × IsCharBoundary bs n × IsTrue (is_of_kind k (take n bs))
token_fit bs k n u e = subst (λ q. IsFit q bs) (sym e) (piece_fits bs u)
