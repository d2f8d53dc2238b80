-- What stands at the front of a text: a blank, a comment or the longest token.
use Rattle.std.specs.Prelude.{ℕ, ◌+◌, ◌-◌, ◌^◌, if◌then◌else◌, ◌==◌, nat_lt, nat_eq, List, [], ◌∷◌}
use Rattle.std.specs.Prelude.{length, take, drop, Option, Some, None, slice_index, find, chars}
use Rattle.std.specs.List.{prefix_len, starts_with}
use Rattle.std.specs.Char.{is_ascii_digit, len_utf8}
use Rattle.unicode_ident.specs.Ident.{is_xid_continue}
use Rattle.sq_token.specs.declared.kind.Reserved.{Reserved}
use Rattle.sq_token.specs.declared.kind.Punctuation.{Punctuation}
use Rattle.sq_token.specs.declared.kind.Punctuation.TheVariants as mark
use Rattle.sq_token.specs.declared.kind.TokenKind.{TokenKind}
use Rattle.sq_token.specs.declared.kind.TokenKind.TheVariants as kind
use Rattle.sq_token.specs.Kinds.{is_start, number_value, punctuation_text, reserved_of}
use Rattle.sq_lex.specs.Characters.{is_blank, opens, closes}
use Rattle.sq_lex.specs.declared.piece.Piece.{Piece}
use Rattle.sq_lex.specs.declared.piece.Piece.TheVariants.{Spacing, Token, OpenComment, Wide, Bad}

-- ---- comments

-- The length of the comment whose text goes on like this, where k bytes of it have passed and so
-- many comments are open inside it.
abbrev pub comment_len : ℕ → ℕ → List ℕ → Option ℕ
comment_len inner k [] = None
comment_len inner k (b ∷ []) = None
comment_len inner k (b ∷ c ∷ bs) =
    if opens b c then comment_len (inner + 1) (k + 2) bs
    else (if closes b c then
    (if inner == 0 then Some (k + 2) else comment_len (inner - 1) (k + 2) bs)
    else comment_len inner (k + 1) (c ∷ bs))

abbrev pub commented : Option ℕ → Piece
commented None = OpenComment
commented (Some n) = Spacing n

-- ---- words, numbers and symbols

-- the bytes of the characters at the front that continue an identifier
abbrev pub continued : List ℕ → ℕ
continued [] = 0
continued (c ∷ cs) = if is_xid_continue c then len_utf8 c + continued cs else 0

-- the bytes of the name at the front of these characters, 0 where there is none
abbrev pub name_len : List ℕ → ℕ
name_len [] = 0
name_len (c ∷ cs) = if is_start c then len_utf8 c + continued cs else 0

abbrev pub word_kind : Option Reserved → TokenKind
word_kind None = kind.Identifier
word_kind (Some r) = kind.Reserved r

-- the word of so many bytes at the front
abbrev pub word : ℕ → List ℕ → Piece
word n bs = Token (word_kind (reserved_of (take n bs))) n

-- the number of so many digits at the front
abbrev pub digits : ℕ → List ℕ → Piece
digits n bs = if nat_lt (number_value (take n bs)) (2 ^ 128) then Token kind.Number n else Wide

-- all symbols, those of two bytes first
abbrev pub symbols : List Punctuation
symbols =
    mark.Differs ∷ mark.AtMost ∷ mark.Implies ∷ mark.LeftArrow
    ∷ mark.And ∷ mark.Or ∷ mark.Repeat ∷ mark.Arrow
    ∷ mark.Dot ∷ mark.Comma ∷ mark.Colon ∷ mark.Semicolon ∷ mark.Equals
    ∷ mark.Less ∷ mark.Greater ∷ mark.OpenParenthesis ∷ mark.CloseParenthesis
    ∷ mark.OpenBracket ∷ mark.CloseBracket ∷ mark.Bar ∷ mark.At ∷ []

-- the longest symbol that the text begins with
unfoldable pub symbol_at : List ℕ → Option Punctuation
symbol_at bs = find (λ p. starts_with nat_eq bs (punctuation_text p)) symbols

abbrev pub symbol : Option Punctuation → Piece
symbol None = Bad
symbol (Some p) = Token (kind.Punctuation p) (length (punctuation_text p))

abbrev pub piece : List ℕ → Piece
piece [] = Bad
piece (b ∷ bs) =
    if is_blank b then Spacing 1
    else (if opens b (slice_index bs 0) then commented (comment_len 0 2 (drop 1 bs))
    else (if nat_lt 0 (name_len (chars (b ∷ bs))) then word (name_len (chars (b ∷ bs))) (b ∷ bs)
    else (if is_ascii_digit b then digits (prefix_len is_ascii_digit (b ∷ bs)) (b ∷ bs)
    else symbol (symbol_at (b ∷ bs)))))
