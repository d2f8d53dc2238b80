-- The tokens that stand are the tokens that are read.
use Rattle.std.proofs.Common.{◌≡◌, ◌⊎◌, ℕ, ◌+◌, ◌<◌, ◌≤◌, ◌^◌, Bool, true, false, ◌&&◌, nat_lt}
use Rattle.std.proofs.Common.{List, [], ◌∷◌, ◌++◌, Option, Some, None, is_none, length, take, drop}
use Rattle.std.proofs.Common.{slice_index, refl, ap, ◌∙◌, sym, subst, arith, chars, inl, inr}
use Rattle.std.specs.Prelude.{if◌then◌else◌}
use Rattle.std.specs.Char.{is_ascii_digit}
use Rattle.std.specs.Str.{IsUtf8, is_utf8, all_ascii_digits}
use Rattle.std.proofs.lemmas.Bool.{and_parts, cases_lt}
use Rattle.std.proofs.lemmas.List.{take-append-drop, length-take-le}
use Rattle.std.proofs.lemmas.Slice.Eq.{bytes_eq-Decides}
use Rattle.std.proofs.lemmas.Str.{IsUtf8-from_is_utf8}
use Rattle.std.proofs.Math.Seq.{take-append_seam}
use Rattle.sq_token.specs.declared.kind.Reserved.{Reserved}
use Rattle.sq_token.specs.declared.kind.Punctuation.{Punctuation}
use Rattle.sq_token.specs.declared.kind.TokenKind.{TokenKind}
use Rattle.sq_token.specs.declared.kind.TokenKind.TheVariants as kind
use Rattle.sq_token.specs.Kinds.{is_name, is_number, IsOfKind, number_value, reserved_of}
use Rattle.sq_token.specs.Kinds.{reserved_text, punctuation_text}
use Rattle.sq_token.proofs.Words.{found_by_text}
use Rattle.sq_lex.specs.declared.piece.Piece.{Piece}
use Rattle.sq_lex.specs.declared.piece.Piece.TheVariants.{Token, Wide}
use Rattle.sq_lex.specs.Characters.{opens, begins_with_comment, begins_with_digit}
use Rattle.sq_lex.specs.Lexemes.{Lexeme}
use Rattle.sq_lex.specs.Pieces.{commented, name_len, word, word_kind, digits, symbol_at, symbol}
use Rattle.sq_lex.specs.Pieces.{piece}
use Rattle.sq_lex.specs.Lex.{lexeme}
use Rattle.sq_lex.specs.Standing.{HasNoLongerToken, IsToken}
use Rattle.sq_lex.proofs.Fits.{token_fit}
use Rattle.sq_lex.proofs.Fronts
use Rattle.sq_lex.proofs.Munch.{IsAtLeast, token_least, token_longest}
use Rattle.sq_lex.proofs.Names.{name_least, name_some}
use Rattle.sq_lex.proofs.Numbers.{digits_whole, digits_behind}
use Rattle.sq_lex.proofs.Symbols.{is_plain, symbol_plain, symbol_begins, one_symbol}
use Rattle.sq_lex.proofs.Words.{reserved_name, reserved_utf8}

-- ---- a token that stands is read

module _ (text after : List ℕ) (u : IsUtf8 (text ++ after))
    (longest : HasNoLongerToken (length text) (text ++ after)) where
  -- what is read there is no longer than the longest token
  not_longer : (k : TokenKind) (n : ℕ) → Token k n ≡ piece (text ++ after) → n ≤ length text
  not_longer k n e =
      let fit = token_fit (text ++ after) k n u e in
      by fit.1.0 fit.2 (cases_lt (length text) n)
    where
      by : n ≤ length (text ++ after) → IsOfKind k (take n (text ++ after))
          → (length text < n) ⊎ (n ≤ length text) → n ≤ length text
      by le is (inl more) = absurd (longest k n more le is)
      by le is (inr less) = less

  name_read : IsUtf8 text → is_name (chars text) ≡ true
      → piece (text ++ after) ≡ Token (word_kind (reserved_of text)) (length text)
  name_read v e =
      let n = name_len (chars (text ++ after)) in
      let least : length text ≤ n = name_least text after v e in
      let some = name_some text e in
      let read : piece (text ++ after) ≡ word n (text ++ after) =
      Fronts.name_piece (text ++ after) (omega arith) in
      let most : n ≤ length text = not_longer _ n (sym read) in
      let same : n ≡ length text = omega arith in
      let cut : take n (text ++ after) ≡ text =
      ap (λ m. take m (text ++ after)) same ∙ take-append_seam text after in
      read
      ∙ (ap (λ m. Token (word_kind (reserved_of (take n (text ++ after)))) m) same
      ∙ ap (λ t. Token (word_kind (reserved_of t)) (length text)) cut)

  symbol_read : (p : Punctuation) → text ≡ punctuation_text p
      → piece (text ++ after) ≡ symbol (symbol_at (text ++ after))
      → piece (text ++ after) ≡ Token (kind.Punctuation p) (length text)
  symbol_read p e read = by (symbol_at (text ++ after)) refl read
    where
      least : IsAtLeast (length text) (piece (text ++ after))
      least =
          let is = (bytes_eq-Decides text (punctuation_text p)).1 e in
          token_least (kind.Punctuation p) text after is

      by : (o : Option Punctuation) → symbol_at (text ++ after) ≡ o
          → piece (text ++ after) ≡ symbol o
          → piece (text ++ after) ≡ Token (kind.Punctuation p) (length text)
      by None f q = absurd (subst (IsAtLeast (length text)) q least)
      by (Some r) f q =
          let n = length (punctuation_text r) in
          let long : length text ≤ n = subst (IsAtLeast (length text)) q least in
          let most : n ≤ length text = not_longer _ n (sym q) in
          let same : n ≡ length text = omega arith in
          let begins = symbol_begins (text ++ after) r f in
          let cut : take n (text ++ after) ≡ text =
          ap (λ m. take m (text ++ after)) same ∙ take-append_seam text after in
          let one : r ≡ p = one_symbol r p (sym begins ∙ (cut ∙ e)) in
          q ∙ (ap (λ m. Token (kind.Punctuation r) m) same
          ∙ ap (λ s. Token (kind.Punctuation s) (length text)) one)

number_read : (text after : List ℕ) → is_number text ≡ true → begins_with_digit after ≡ false
    → piece (text ++ after) ≡ Token kind.Number (length text)
number_read [] after e h = cc
number_read (b ∷ bs) after e h =
    let small = nat_lt (number_value (b ∷ bs)) (2 ^ 128) in
    let parts = and_parts (all_ascii_digits (b ∷ bs)) small e in
    let first = (and_parts (is_ascii_digit b) (all_ascii_digits bs) parts.0).0 in
    let whole = digits_whole (b ∷ bs) after parts.0 h in
    let cut = take-append_seam (b ∷ bs) after in
    let made : Bool → Piece = λ t. if t then Token kind.Number (length (b ∷ bs)) else Wide in
    Fronts.number_piece b (bs ++ after) first
    ∙ (ap (λ n. digits n (b ∷ bs ++ after)) whole
    ∙ (ap (λ t. made (nat_lt (number_value t) (2 ^ 128))) cut ∙ ap made parts.1))

-- a mark that opens no comment
mark_read : (text after : List ℕ) → is_plain text ≡ true
    → begins_with_comment (text ++ after) ≡ false
    → piece (text ++ after) ≡ symbol (symbol_at (text ++ after))
mark_read [] after e h = cc
mark_read (b ∷ bs) after e h = Fronts.mark_piece b (bs ++ after) e h

identifier_kind : (o : Option Reserved) → is_none o ≡ true → word_kind o ≡ kind.Identifier
identifier_kind None e = refl
identifier_kind (Some w) e = cc

pub token_read : (t : Lexeme) (after : List ℕ) → IsUtf8 (t.text ++ after) → IsToken t after
    → piece (t.text ++ after) ≡ Token t.kind (length t.text)
token_read t after u is = by t.kind is.of_kind is.all_digits
  where
    by : (k : TokenKind) → IsOfKind k t.text → (k ≡ kind.Number → begins_with_digit after ≡ false)
        → piece (t.text ++ after) ≡ Token k (length t.text)
    by kind.Identifier e h =
        let parts =
        and_parts (is_utf8 t.text && is_name (chars t.text)) (is_none (reserved_of t.text)) e in
        let front = and_parts (is_utf8 t.text) (is_name (chars t.text)) parts.0 in
        name_read t.text after u is.longest (IsUtf8-from_is_utf8 t.text front.0) front.1
        ∙ ap (λ k. Token k (length t.text)) (identifier_kind (reserved_of t.text) parts.1)
    by (kind.Reserved w) e h =
        let same : t.text ≡ reserved_text w = (bytes_eq-Decides t.text (reserved_text w)).0 e in
        let found = ap reserved_of same ∙ found_by_text w in
        let utf8 = subst IsUtf8 (sym same) (reserved_utf8 w) in
        let name = ap (λ x. is_name (chars x)) same ∙ reserved_name w in
        name_read t.text after u is.longest utf8 name
        ∙ ap (λ o. Token (word_kind o) (length t.text)) found
    by kind.Number e h = number_read t.text after e (h refl)
    by (kind.Punctuation p) e h =
        let same : t.text ≡ punctuation_text p =
        (bytes_eq-Decides t.text (punctuation_text p)).0 e in
        let plain = ap is_plain same ∙ symbol_plain p in
        symbol_read t.text after u is.longest p same (mark_read t.text after plain is.no_comment)

-- ---- a token that is read stands

no_comment : (k : TokenKind) (n b : ℕ) (bs : List ℕ) → Token k n ≡ piece (b ∷ bs)
    → opens b (slice_index bs 0) ≡ false
no_comment k n b bs e = by (opens b (slice_index bs 0)) refl
  where
    none : (o : Option ℕ) → Token k n ≡ commented o → ⊥
    none None q = cc
    none (Some m) q = cc

    by : (t : Bool) → opens b (slice_index bs 0) ≡ t → t ≡ false
    by true f = absurd (none _ (e ∙ Fronts.comment_piece b bs f))
    by false f = refl

all_digits : (n b : ℕ) (bs : List ℕ) → Token kind.Number n ≡ piece (b ∷ bs)
    → begins_with_digit (drop n (b ∷ bs)) ≡ false
all_digits n b bs e = by (subst (Fronts.Front b bs) (sym e) (Fronts.front b bs))
  where
    no_word : (o : Option Reserved) → kind.Number ≡ word_kind o → ⊥
    no_word None q = cc
    no_word (Some w) q = cc

    by : Fronts.Front b bs (Token kind.Number n) → begins_with_digit (drop n (b ∷ bs)) ≡ false
    by (Fronts.name _ _ some f same) = absurd (no_word _ same)
    by (Fronts.number _ f len small) =
        subst (λ m. begins_with_digit (drop m (b ∷ bs)) ≡ false) (sym len) (digits_behind (b ∷ bs))

pub token_stands : (k : TokenKind) (n at : ℕ) (bs : List ℕ) → IsUtf8 bs → Token k n ≡ piece bs
    → IsToken (lexeme k n at bs) (drop n bs)
token_stands k n at [] u e = cc
token_stands k n at (b ∷ bs) u e =
    let text = take n (b ∷ bs) in
    let fit = token_fit (b ∷ bs) k n u e in
    let len : length text ≡ n = length-take-le n (b ∷ bs) fit.1.0 in
    let whole : text ++ drop n (b ∷ bs) ≡ b ∷ bs = take-append-drop n (b ∷ bs) in
    let none : HasNoLongerToken n (b ∷ bs) = token_longest k n (b ∷ bs) e in
    record {
      of_kind = fit.2;
      end = ap (λ m. at + m) (sym len);
      longest =
          subst (HasNoLongerToken (length text)) (sym whole)
          (subst (λ m. HasNoLongerToken m (b ∷ bs)) (sym len) none);
      no_comment = ap begins_with_comment whole ∙ no_comment k n b bs e;
      all_digits = λ same. all_digits n b bs (ap (λ j. Token j n) (sym same) ∙ e);
    }
