-- The tokens and the sentences of a source, as data.
use Rattle.std.specs.Prelude.{ℕ, ◌+◌, Bool, true, false, List, [], ◌∷◌, map, take, count_by}
use Rattle.sq_token.specs.declared.kind.Punctuation.TheVariants.{Dot}
use Rattle.sq_token.specs.declared.kind.TokenKind.{TokenKind}
use Rattle.sq_token.specs.declared.kind.TokenKind.TheVariants.{Punctuation}
use Rattle.sq_token.specs.declared.token.Token.{Token}
use Rattle.sq_token.specs.declared.token.Sentence.{Sentence}
use Rattle.sq_lex.specs.Characters.{is_newline}

-- the data of a token, and of a sentence
pub record Lexeme : Type 0 where
  pub kind : TokenKind
  pub text : List ℕ
  pub from : ℕ
  pub to : ℕ

pub record Line : Type 0 where
  pub tokens : List Lexeme
  pub line : ℕ

abbrev pub lexeme_of : Token → Lexeme
lexeme_of t = record { kind = t.kind; text = t.text; from = t.from; to = t.to }

abbrev pub line_of : Sentence → Line
line_of s = record { tokens = map lexeme_of s.tokens; line = s.line }

abbrev pub is_stop : TokenKind → Bool
is_stop (Punctuation Dot) = true
is_stop _ = false

-- the line of a place of the source, counted from 1
abbrev pub line_at : List ℕ → ℕ → ℕ
line_at source at = 1 + count_by is_newline (take at source)

-- the place of the first of these tokens, or of the stop behind them
abbrev pub first_place : List Lexeme → Lexeme → ℕ
first_place [] stop = stop.from
first_place (t ∷ ts) stop = t.from
