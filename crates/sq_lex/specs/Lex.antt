-- The sentences of a source.
use Rattle.std.specs.Prelude.{ℕ, zero, suc, ◌+◌, ◌-◌, if◌then◌else◌, List, [], ◌∷◌, ◌++◌, take}
use Rattle.std.specs.Prelude.{Result, Ok, Err}
use Rattle.std.specs.Str.{is_utf8}
use Rattle.std.specs.Str.Lossy.{utf8_valid_len}
use Rattle.sq_token.specs.declared.kind.TokenKind.{TokenKind}
use Rattle.sq_lex.specs.declared.fault.LexFault.{LexFault}
use Rattle.sq_lex.specs.declared.fault.LexFault.TheVariants as f
use Rattle.sq_lex.specs.declared.piece.Piece.TheVariants as p
use Rattle.sq_lex.specs.Lexemes.{Lexeme, Line, is_stop, line_at, first_place}
use Rattle.sq_lex.specs.Pieces.{piece}

-- the token of so many bytes at a place, where this text begins
abbrev pub lexeme : TokenKind → ℕ → ℕ → List ℕ → Lexeme
lexeme k n at bs = record { kind = k; text = take n bs; from = at; to = at + n }

-- the list with one more in front, where there is a list
abbrev pub prepend : {A : Type 0} → A → Result (List A) LexFault → Result (List A) LexFault
prepend x (Ok xs) = Ok (x ∷ xs)
prepend x (Err e) = Err e

-- The tokens of what begins at a place, stops among them. The first number counts the bytes that
-- are left of a piece.
abbrev pub lexemes : ℕ → ℕ → List ℕ → Result (List Lexeme) LexFault
lexemes left at [] = Ok []
lexemes (suc left) at (b ∷ bs) = lexemes left (at + 1) bs
lexemes zero at (b ∷ bs) = elim (piece (b ∷ bs)) [
  | p.Spacing n ↦ lexemes (n - 1) (at + 1) bs
  | p.Token k n ↦ prepend (lexeme k n at (b ∷ bs)) (lexemes (n - 1) (at + 1) bs)
  | p.OpenComment ↦ Err (f.OpenComment at)
  | p.Wide ↦ Err (f.NumberWide at)
  | p.Bad ↦ Err (f.BadChar at)
]

-- ---- sentences

abbrev pub sentence : List ℕ → List Lexeme → Lexeme → Line
sentence source since stop = record {
  tokens = since;
  line = line_at source (first_place since stop);
}

-- what is answered at the end of the source, where these tokens stand since the last stop
abbrev pub unfinished : List Lexeme → Result (List Line) LexFault
unfinished [] = Ok []
unfinished (t ∷ ts) = Err (f.NoStop t.from)

-- the sentences of these tokens, where others stand since the last stop
abbrev pub cut : List ℕ → List Lexeme → List Lexeme → Result (List Line) LexFault
cut source since [] = unfinished since
cut source since (t ∷ ts) =
    if is_stop t.kind then prepend (sentence source since t) (cut source [] ts)
    else cut source (since ++ t ∷ []) ts

-- these sentences, and those that follow them
abbrev pub joined : List Line → Result (List Line) LexFault → Result (List Line) LexFault
joined done (Ok ss) = Ok (done ++ ss)
joined done (Err e) = Err e

abbrev pub cut_all : List ℕ → List Lexeme → Result (List Lexeme) LexFault
    → Result (List Line) LexFault
cut_all source since (Ok ts) = cut source since ts
cut_all source since (Err e) = Err e

abbrev pub sentences : List ℕ → Result (List Line) LexFault
sentences source =
    if is_utf8 source then cut_all source [] (lexemes 0 0 source)
    else Err (f.NotUtf8 (utf8_valid_len source))
