-- Steps of `lexemes` over a piece.
use Rattle.std.proofs.Common.{◌≡◌, ℕ, zero, suc, ◌+◌, ◌-◌, ◌<◌, ◌≤◌, List, [], ◌∷◌, length, take}
use Rattle.std.proofs.Common.{drop, Result, Err, ap, ◌∙◌, sym, subst, arith}
use Rattle.std.specs.Str.{IsUtf8}
use Rattle.std.proofs.lemmas.Str.{IsUtf8-drop}
use Rattle.sq_token.specs.declared.kind.TokenKind.{TokenKind}
use Rattle.sq_lex.specs.declared.fault.LexFault.{LexFault}
use Rattle.sq_lex.specs.declared.fault.LexFault.TheVariants as f
use Rattle.sq_lex.specs.declared.piece.Piece.{Piece}
use Rattle.sq_lex.specs.declared.piece.Piece.TheVariants.{Spacing, Token, OpenComment, Wide, Bad}
use Rattle.sq_lex.specs.Lexemes.{Lexeme}
use Rattle.sq_lex.specs.Pieces.{piece}
use Rattle.sq_lex.specs.Lex.{lexeme, lexemes, prepend}
use Rattle.sq_lex.proofs.Fits.{spacing_fit, token_fit}

-- the bytes that are left of a piece are passed over
skipped : (n at : ℕ) (bs : List ℕ) → n ≤ length bs
    → lexemes n at bs ≡ lexemes 0 (at + n) (drop n bs)
skipped zero at bs h = let e : at ≡ at + 0 = omega arith in ap (λ k. lexemes 0 k bs) e
skipped (suc n) at [] h = absurd (omega arith)
skipped (suc n) at (b ∷ bs) h =
    let e : at + 1 + n ≡ at + suc n = omega arith in
    skipped n (at + 1) bs (omega arith) ∙ ap (λ k. lexemes 0 k (drop n bs)) e

-- the bytes of a piece behind its first one
rest_of : (n at b : ℕ) (bs : List ℕ) → 1 ≤ n → n ≤ length (b ∷ bs)
    → lexemes (n - 1) (at + 1) bs ≡ lexemes 0 (at + n) (drop n (b ∷ bs))
rest_of zero at b bs h le = absurd (omega arith)
rest_of (suc n) at b bs h le =
    let less : suc n - 1 ≡ n = omega arith in
    ap (λ k. lexemes k (at + 1) bs) less ∙ skipped (suc n) at (b ∷ bs) le

-- what is done at a piece
abbrev step : ℕ → ℕ → List ℕ → Piece → Result (List Lexeme) LexFault
step at b bs p = elim p [
  | Spacing n ↦ lexemes (n - 1) (at + 1) bs
  | Token k n ↦ prepend (lexeme k n at (b ∷ bs)) (lexemes (n - 1) (at + 1) bs)
  | OpenComment ↦ Err (f.OpenComment at)
  | Wide ↦ Err (f.NumberWide at)
  | Bad ↦ Err (f.BadChar at)
]

module _ (at : ℕ) where
  pub at_spacing : (n : ℕ) (bs : List ℕ) → 0 < length bs → Spacing n ≡ piece bs → 1 ≤ n
      → n ≤ length bs → lexemes 0 at bs ≡ lexemes 0 (at + n) (drop n bs)
  at_spacing n [] some e h le = absurd (omega arith)
  at_spacing n (b ∷ bs) some e h le = ap (step at b bs) (sym e) ∙ rest_of n at b bs h le

  pub at_token : (k : TokenKind) (n : ℕ) (bs : List ℕ) → 0 < length bs → Token k n ≡ piece bs
      → 1 ≤ n → n ≤ length bs
      → lexemes 0 at bs ≡ prepend (lexeme k n at bs) (lexemes 0 (at + n) (drop n bs))
  at_token k n [] some e h le = absurd (omega arith)
  at_token k n (b ∷ bs) some e h le =
      ap (step at b bs) (sym e)
      ∙ ap (prepend (lexeme k n at (b ∷ bs))) (rest_of n at b bs h le)

  pub at_open : (bs : List ℕ) → 0 < length bs → OpenComment ≡ piece bs
      → lexemes 0 at bs ≡ Err (f.OpenComment at)
  at_open [] some e = absurd (omega arith)
  at_open (b ∷ bs) some e = ap (step at b bs) (sym e)

  pub at_wide : (bs : List ℕ) → 0 < length bs → Wide ≡ piece bs
      → lexemes 0 at bs ≡ Err (f.NumberWide at)
  at_wide [] some e = absurd (omega arith)
  at_wide (b ∷ bs) some e = ap (step at b bs) (sym e)

  pub at_bad : (bs : List ℕ) → 0 < length bs → Bad ≡ piece bs
      → lexemes 0 at bs ≡ Err (f.BadChar at)
  at_bad [] some e = absurd (omega arith)
  at_bad (b ∷ bs) some e = ap (step at b bs) (sym e)

-- ---- a piece, and what is behind it

pub spacing_step : (at n : ℕ) (bs after : List ℕ) → IsUtf8 bs → Spacing n ≡ piece bs
    → after ≡ drop n bs
    → (lexemes 0 at bs ≡ lexemes 0 (at + n) after) × IsUtf8 after
spacing_step at n bs after u e h =
    let fit = spacing_fit bs n u e in
    let some : 0 < length bs = omega (arith, fit.0, fit.1.0) in (
      at_spacing at n bs some e fit.0 fit.1.0 ∙ ap (lexemes 0 (at + n)) (sym h),
      subst IsUtf8 (sym h) (IsUtf8-drop bs n u fit.1),
    )

pub token_step : (at n : ℕ) (k : TokenKind) (bs front after : List ℕ) → IsUtf8 bs
    → Token k n ≡ piece bs → front ≡ take n bs → after ≡ drop n bs
    → (lexemes 0 at bs
    ≡ prepend (record { kind = k; text = front; from = at; to = at + n })
    (lexemes 0 (at + n) after))
    × IsUtf8 after
token_step at n k bs front after u e f h =
    let fit = token_fit bs k n u e in
    let some : 0 < length bs = omega (arith, fit.0, fit.1.0) in
    let made : List ℕ → Lexeme = λ t. record { kind = k; text = t; from = at; to = at + n } in (
      at_token at k n bs some e fit.0 fit.1.0
          ∙ (ap (λ t. prepend (made t) (lexemes 0 (at + n) (drop n bs))) (sym f)
          ∙ ap (λ r. prepend (made front) (lexemes 0 (at + n) r)) (sym h)),
      subst IsUtf8 (sym h) (IsUtf8-drop bs n u fit.1),
    )
