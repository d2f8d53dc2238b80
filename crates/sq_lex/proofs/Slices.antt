-- The texts of the tokens that stand are slices of the source.
use Rattle.std.proofs.Common.{◌≡◌, ℕ, ◌+◌, ◌-◌, ◌<◌, ◌≤◌, List, [], ◌++◌, All, length, take, drop}
use Rattle.std.proofs.Common.{slice_range, refl, ap, ◌∙◌, sym, subst, arith, length-append}
use Rattle.std.proofs.lemmas.List.{append_assoc}
use Rattle.std.proofs.lemmas.List.Elements.{All-nil, All-cons}
use Rattle.std.proofs.Math.Seq.{take-append_seam, drop-append_seam}
use Rattle.sq_token.specs.declared.kind.TokenKind.{TokenKind}
use Rattle.sq_token.specs.Kinds.{IsOfKind}
use Rattle.sq_lex.specs.Lexemes.{Lexeme, Line}
use Rattle.sq_lex.specs.Standing.{IsToken, Stands, done, next, IsSlice}
use Rattle.sq_lex.specs.Answers.{AreSentences}

module _ (source front gap after : List ℕ) (t : Lexeme)
    (e : source ≡ front ++ (gap ++ (t.text ++ after)))
    (from : t.from ≡ length front + length gap) (is : IsToken t after) where
  at_text : source ≡ (front ++ gap) ++ (t.text ++ after)
  at_text = e ∙ sym (append_assoc front gap (t.text ++ after))

  len : t.from ≡ length (front ++ gap)
  len = from ∙ sym (length-append front gap)

  from_there : drop t.from source ≡ t.text ++ after
  from_there =
      ap (λ k. drop k source) len
      ∙ (ap (drop (length (front ++ gap))) at_text
      ∙ drop-append_seam (front ++ gap) (t.text ++ after))

  whole : length source ≡ t.from + length (t.text ++ after)
  whole =
      ap length at_text
      ∙ (length-append (front ++ gap) (t.text ++ after)
      ∙ ap (λ k. k + length (t.text ++ after)) (sym len))

  slice_is : (n : ℕ) → slice_range source t.from n ≡ take (n - t.from) (t.text ++ after)
  slice_is n = ap (take (n - t.from)) from_there

  behind : source ≡ ((front ++ gap) ++ t.text) ++ after
  behind = at_text ∙ sym (append_assoc (front ++ gap) t.text after)

  behind_len : length ((front ++ gap) ++ t.text) ≡ t.to
  behind_len = omega (arith, length-append (front ++ gap) t.text, len, is.end)

  text_is : t.text ≡ slice_range source t.from t.to
  text_is =
      let n : t.to - t.from ≡ length t.text = omega (arith, is.end) in
      let front_is = ap (λ j. take j (t.text ++ after)) n ∙ take-append_seam t.text after in
      sym (slice_is t.to ∙ front_is)

  none_longer : (k : TokenKind) (n : ℕ) → t.to < n → n ≤ length source
      → IsOfKind k (slice_range source t.from n) → ⊥
  none_longer k n more le kind =
      is.longest k (n - t.from) (omega (arith, is.end)) (omega (arith, whole))
      (subst (IsOfKind k) (slice_is n) kind)

  slice : IsSlice source t
  slice = record {
    within = omega (arith, whole, length-append t.text after, is.end);
    text = text_is;
    longest = none_longer;
  }

slices : (end : ℕ) (rest source front bs : List ℕ) (at : ℕ) (ts : List Lexeme)
    → source ≡ front ++ bs → length front ≡ at → Stands end rest at ts bs → All (IsSlice source) ts
slices end rest source front _ _ _ e l (done at gap s place) = All-nil (IsSlice source)
slices end rest source front _ _ _ e l (next at gap t ts after s from is stands) =
    let place : t.from ≡ length front + length gap = omega (arith, from, l) in
    All-cons (IsSlice source) t ts (slice source front gap after t e place is)
    (slices end rest source ((front ++ gap) ++ t.text) after t.to ts
    (behind source front gap after t e place is)
    (behind_len source front gap after t e place is) stands)

pub token_slices : (source : List ℕ) (ss : List Line) (found : AreSentences source ss)
    → All (IsSlice source) found.tokens
token_slices source ss found =
    slices (length source) (drop (length source) source) source [] source 0 found.tokens refl refl
    found.reached.stands
