-- What is refused at the front of a text, and the piece that says so.
use Rattle.std.proofs.Common.{◌≡◌, ℕ, suc, ◌≤◌, ◌^◌, Bool, true, false, nat_lt, List, [], ◌∷◌, ◌++◌}
use Rattle.std.proofs.Common.{Option, Some, None, length, take, drop, refl, ap, ◌∙◌, sym, subst}
use Rattle.std.proofs.Common.{arith}
use Rattle.std.specs.Prelude.{if◌then◌else◌}
use Rattle.std.specs.Char.{is_ascii_digit}
use Rattle.std.specs.Str.{IsUtf8, all_ascii_digits}
use Rattle.std.proofs.lemmas.Bool.{and_parts}
use Rattle.std.proofs.lemmas.Bool.Decides.{nat_tests}
use Rattle.std.proofs.lemmas.List.{take-append-drop}
use Rattle.std.proofs.Math.Seq.{take-append_seam}
use Rattle.sq_token.specs.declared.kind.TokenKind.{TokenKind}
use Rattle.sq_token.specs.declared.kind.TokenKind.TheVariants as kind
use Rattle.sq_token.specs.Kinds.{number_value}
use Rattle.sq_lex.specs.declared.piece.Piece.{Piece}
use Rattle.sq_lex.specs.declared.piece.Piece.TheVariants.{Token, OpenComment, Wide, Bad}
use Rattle.sq_lex.specs.Characters.{begins_with_digit}
use Rattle.sq_lex.specs.Pieces.{comment_len, commented, digits, piece}
use Rattle.sq_lex.specs.Standing.{Closes}
use Rattle.sq_lex.specs.Faults.{BeginsNothing, IsOpenComment, IsWideNumber}
use Rattle.sq_lex.proofs.Comments.{closed_len, comment_closed}
use Rattle.sq_lex.proofs.Fits.{token_fit}
use Rattle.sq_lex.proofs.Fronts
use Rattle.sq_lex.proofs.Munch.{none_longest}
use Rattle.sq_lex.proofs.Numbers.{digits_front, digits_behind, digits_whole, digit_number}

-- ---- from the piece to the cause

no_close : (bs : List ℕ) → comment_len 0 2 bs ≡ None → (n : ℕ) → Closes 0 (take n bs) → ⊥
no_close bs e n h =
    let len = closed_len 0 2 (take n bs) (drop n bs) h in
    let whole = ap (comment_len 0 2) (take-append-drop n bs) in
    cc

module _ (b : ℕ) (bs : List ℕ) where
  read : (q : Piece) → q ≡ piece (b ∷ bs) → Fronts.Front b bs q
  read q e = subst (Fronts.Front b bs) (sym e) (Fronts.front b bs)

  pub open_comment : OpenComment ≡ piece (b ∷ bs) → IsOpenComment (b ∷ bs)
  open_comment e = by (read OpenComment e)
    where
      by : Fronts.Front b bs OpenComment → IsOpenComment (b ∷ bs)
      by (Fronts.unclosed f none) = record { begins = f; never = no_close (drop 1 bs) none }

  pub wide_number : Wide ≡ piece (b ∷ bs) → IsWideNumber (b ∷ bs)
  wide_number e = by (read Wide e)
    where
      by : Fronts.Front b bs Wide → IsWideNumber (b ∷ bs)
      by (Fronts.wide n f len large) = record {
        digits = take n (b ∷ bs);
        after = drop n (b ∷ bs);
        joined = sym (take-append-drop n (b ∷ bs));
        are_digits = ap (λ m. all_ascii_digits (take m (b ∷ bs))) len ∙ digits_front (b ∷ bs);
        all_digits = ap (λ m. begins_with_digit (drop m (b ∷ bs))) len ∙ digits_behind (b ∷ bs);
        wide = grind (arith, nat_tests);
      }

  pub nothing : Bad ≡ piece (b ∷ bs) → BeginsNothing (b ∷ bs)
  nothing e = by (read Bad e)
    where
      by : Fronts.Front b bs Bad → BeginsNothing (b ∷ bs)
      by (Fronts.nothing no_blank no_comment) = record {
        there = omega arith;
        token = none_longest (b ∷ bs) e;
        blank = no_blank;
        comment = no_comment;
      }

-- ---- from the cause to the piece

pub open_piece : (text : List ℕ) → IsOpenComment text → piece text ≡ OpenComment
open_piece [] h = let no = h.begins in cc
open_piece (b ∷ bs) h =
    Fronts.comment_piece b bs h.begins ∙ by (comment_len 0 2 (drop 1 bs)) refl
  where
    by : (o : Option ℕ) → comment_len 0 2 (drop 1 bs) ≡ o → commented o ≡ OpenComment
    by None e = refl
    by (Some n) e =
        let r = comment_closed 0 2 (drop 1 bs) n e in
        absurd (h.never (suc r.before) r.closes)

wide_digits : (digits after : List ℕ) → all_ascii_digits digits ≡ true
    → begins_with_digit after ≡ false → 2 ^ 128 ≤ number_value digits
    → piece (digits ++ after) ≡ Wide
wide_digits [] after e h w = absurd (omega arith)
wide_digits (d ∷ ds) after e h w =
    let first = (and_parts (is_ascii_digit d) (all_ascii_digits ds) e).0 in
    let whole = digits_whole (d ∷ ds) after e h in
    let cut = take-append_seam (d ∷ ds) after in
    let made : Bool → Piece = λ t. if t then Token kind.Number (length (d ∷ ds)) else Wide in
    let wide : nat_lt (number_value (d ∷ ds)) (2 ^ 128) ≡ false = grind (arith, nat_tests) in
    Fronts.number_piece d (ds ++ after) first
    ∙ (ap (λ n. digits n (d ∷ ds ++ after)) whole
    ∙ (ap (λ t. made (nat_lt (number_value t) (2 ^ 128))) cut ∙ ap made wide))

pub wide_piece : (text : List ℕ) → IsWideNumber text → piece text ≡ Wide
wide_piece text h =
    ap piece h.joined ∙ wide_digits h.digits h.after h.are_digits h.all_digits h.wide

pub nothing_piece : (text : List ℕ) → IsUtf8 text → BeginsNothing text → piece text ≡ Bad
nothing_piece [] u h = refl
nothing_piece (b ∷ bs) u h = by (piece (b ∷ bs)) refl (Fronts.front b bs)
  where
    no_token : (k : TokenKind) (n : ℕ) → Token k n ≡ piece (b ∷ bs) → ⊥
    no_token k n e =
        let fit = token_fit (b ∷ bs) k n u e in
        h.token k n (omega (arith, fit.0)) fit.1.0 fit.2

    by : (q : Piece) → q ≡ piece (b ∷ bs) → Fronts.Front b bs q → q ≡ Bad
    by _ e (Fronts.blank f) = let no = h.blank in cc
    by _ e (Fronts.comment n f g) = let no = h.comment in cc
    by _ e (Fronts.unclosed f g) = let no = h.comment in cc
    by _ e (Fronts.name n k some f same) = absurd (no_token k n e)
    by _ e (Fronts.number n f len small) = absurd (no_token kind.Number n e)
    by _ e (Fronts.wide n f len large) =
        absurd (h.token kind.Number 1 (omega arith) (omega arith) (digit_number b f))
    by _ e (Fronts.mark p f) = absurd (no_token (kind.Punctuation p) _ e)
    by _ e (Fronts.nothing f g) = refl
