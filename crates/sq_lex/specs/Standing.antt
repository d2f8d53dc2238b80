-- A source as its tokens and what stands between them.
use Rattle.std.specs.Prelude.{◌≡◌, ℕ, suc, ◌+◌, ◌<◌, ◌≤◌, true, false, List, [], ◌∷◌, ◌++◌, length}
use Rattle.std.specs.Prelude.{take, drop, slice_index, slice_range, not, codes}
use Rattle.std.specs.List.{list_all}
use Rattle.std.specs.Str.{IsUtf8}
use Rattle.sq_token.specs.declared.kind.TokenKind.{TokenKind}
use Rattle.sq_token.specs.declared.kind.TokenKind.TheVariants.{Number}
use Rattle.sq_token.specs.Kinds.{IsOfKind}
use Rattle.sq_lex.specs.Characters.{is_blank, opens, closes, begins_with_comment, begins_with_digit}
use Rattle.sq_lex.specs.Lexemes.{Lexeme, Line, line_at, is_stop, first_place}

-- ---- spacing

-- Inside n + 1 open comments, the text ends with the `*)` that closes the outermost. What opens or
-- closes a comment is read from left to right, two bytes at a time.
pub data Closes : ℕ → List ℕ → Type 0 where
  last : Closes 0 (codes "*)")
  inner : (n : ℕ) (bs : List ℕ) → Closes n bs → Closes (suc n) (codes "*)" ++ bs)
  opening : (n : ℕ) (bs : List ℕ) → Closes (suc n) bs → Closes n (codes "(*" ++ bs)
  other : (n b : ℕ) (bs : List ℕ) → opens b (slice_index bs 0) ≡ false
      → closes b (slice_index bs 0) ≡ false → Closes n bs → Closes n (b ∷ bs)

-- blanks and comments, and nothing else
pub data IsSpacing : List ℕ → Type 0 where
  none : IsSpacing []
  blank : (b : ℕ) (bs : List ℕ) → is_blank b ≡ true → IsSpacing bs → IsSpacing (b ∷ bs)
  comment : (inside bs : List ℕ) → Closes 0 inside → IsSpacing bs
      → IsSpacing (codes "(*" ++ (inside ++ bs))

-- ---- tokens

-- no front of the text that is longer than n bytes is a token
abbrev pub HasNoLongerToken : ℕ → List ℕ → Type 0
HasNoLongerToken n bs = (k : TokenKind) (m : ℕ) → n < m → m ≤ length bs → IsOfKind k (take m bs) → ⊥

-- The token's text stands in front of what comes after it, and is the longest there. What begins a
-- comment is no parenthesis, and all digits of a number belong to it, however wide that makes it.
pub record IsToken (t : Lexeme) (after : List ℕ) : Type 0 where
  pub of_kind : IsOfKind t.kind t.text
  pub end : t.to ≡ t.from + length t.text
  pub longest : HasNoLongerToken (length t.text) (t.text ++ after)
  pub no_comment : begins_with_comment (t.text ++ after) ≡ false
  pub all_digits : t.kind ≡ Number → begins_with_digit after ≡ false

-- From this place on the text is these tokens, with blanks and comments before, between and behind
-- them, up to the place `end`, where the rest of it stands.
pub data Stands (end : ℕ) (rest : List ℕ) : ℕ → List Lexeme → List ℕ → Type 0 where
  done : (at : ℕ) (gap : List ℕ) → IsSpacing gap → end ≡ at + length gap
      → Stands end rest at [] (gap ++ rest)
  next : (at : ℕ) (gap : List ℕ) (t : Lexeme) (ts : List Lexeme) (after : List ℕ)
      → IsSpacing gap → t.from ≡ at + length gap → IsToken t after
      → Stands end rest t.to ts after → Stands end rest at (t ∷ ts) (gap ++ (t.text ++ after))

-- The source is UTF-8, and up to this place it is these tokens, with blanks and comments around.
pub record IsReached (source : List ℕ) (at : ℕ) (tokens : List Lexeme) : Type 0 where
  pub utf8 : IsUtf8 source
  pub stands : Stands at (drop at source) 0 tokens source

-- ---- sentences

-- These sentences are the tokens, cut at each stop. A sentence has the line of its first token, or
-- of its stop where it has none.
pub data AreCut (source : List ℕ) : List Line → List Lexeme → Type 0 where
  empty : AreCut source [] []
  stopped : (s : Line) (stop : Lexeme) (ss : List Line) (ts : List Lexeme)
      → list_all (λ t. not (is_stop t.kind)) s.tokens ≡ true → is_stop stop.kind ≡ true
      → s.line ≡ line_at source (first_place s.tokens stop)
      → AreCut source ss ts → AreCut source (s ∷ ss) (s.tokens ++ stop ∷ ts)

-- the token's text is the slice of the source at its span, and no longer token begins there
pub record IsSlice (source : List ℕ) (t : Lexeme) : Type 0 where
  pub within : t.to ≤ length source
  pub text : t.text ≡ slice_range source t.from t.to
  pub longest : (k : TokenKind) (n : ℕ) → t.to < n → n ≤ length source
      → IsOfKind k (slice_range source t.from n) → ⊥
