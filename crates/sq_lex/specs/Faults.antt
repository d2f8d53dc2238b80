-- Why a source is refused at a place.
use Rattle.std.specs.Prelude.{◌≡◌, ℕ, ◌<◌, ◌≤◌, ◌^◌, true, false, List, ◌∷◌, ◌++◌, take, drop}
use Rattle.std.specs.Prelude.{length, not}
use Rattle.std.specs.List.{list_all}
use Rattle.std.specs.Str.{IsValidUpTo, all_ascii_digits}
use Rattle.sq_token.specs.Kinds.{number_value}
use Rattle.sq_lex.specs.declared.fault.LexFault.{LexFault}
use Rattle.sq_lex.specs.declared.fault.LexFault.TheVariants as f
use Rattle.sq_lex.specs.Characters.{begins_with_blank, begins_with_comment, begins_with_digit}
use Rattle.sq_lex.specs.Lexemes.{Lexeme, Line, is_stop}
use Rattle.sq_lex.specs.Standing.{Closes, HasNoLongerToken, IsReached, AreCut}

-- the text is not empty, and no token, blank or comment begins it
pub record BeginsNothing (text : List ℕ) : Type 0 where
  pub there : 0 < length text
  pub token : HasNoLongerToken 0 text
  pub blank : begins_with_blank text ≡ false
  pub comment : begins_with_comment text ≡ false

-- a comment begins the text, and no front of what follows closes it
pub record IsOpenComment (text : List ℕ) : Type 0 where
  pub begins : begins_with_comment text ≡ true
  pub never : (n : ℕ) → Closes 0 (take n (drop 2 text)) → ⊥

-- digits begin the text, no digit follows them, and they are worth more than a number may be
pub record IsWideNumber (text : List ℕ) : Type 0 where
  pub digits : List ℕ
  pub after : List ℕ
  pub joined : text ≡ digits ++ after
  pub are_digits : all_ascii_digits digits ≡ true
  pub all_digits : begins_with_digit after ≡ false
  pub wide : 2 ^ 128 ≤ number_value digits

-- The whole source is tokens. Some are cut into sentences, and behind the last stop there are more,
-- the first of them at this place.
pub record HasNoStop (source : List ℕ) (at : ℕ) : Type 0 where
  pub cut : List Lexeme
  pub first : Lexeme
  pub others : List Lexeme
  pub sentences : List Line
  pub reached : IsReached source (length source) (cut ++ first ∷ others)
  pub are_cut : AreCut source sentences cut
  pub no_stop : list_all (λ t. not (is_stop t.kind)) (first ∷ others) ≡ true
  pub place : at ≡ first.from

-- What begins at the place is refused, and what stands before it is tokens and spacing.
pub record IsRefusedAt (source : List ℕ) (at : ℕ) (Cause : List ℕ → Type 0) : Type 0 where
  pub tokens : List Lexeme
  pub reached : IsReached source at tokens
  pub cause : Cause (drop at source)

-- the source is refused for this fault
abbrev pub IsFault : List ℕ → LexFault → Type 0
IsFault source (f.NotUtf8 at) = IsValidUpTo source at
IsFault source (f.BadChar at) = IsRefusedAt source at BeginsNothing
IsFault source (f.OpenComment at) = IsRefusedAt source at IsOpenComment
IsFault source (f.NumberWide at) = IsRefusedAt source at IsWideNumber
IsFault source (f.NoStop at) = HasNoStop source at
IsFault source f.NoMemory = ⊥
