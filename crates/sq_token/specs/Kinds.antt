-- How each kind of token is written.
use Rattle.std.specs.Prelude.{◌^◌, ℕ, Bool, false, ◌&&◌, ◌||◌, ◌==◌, nat_lt, List, [], ◌∷◌, Option}
use Rattle.std.specs.Prelude.{is_none, find, IsTrue, codes, bytes_eq, chars}
use Rattle.std.specs.Str.{is_utf8, all_ascii_digits}
use Rattle.std.specs.Str.Parse.{digits_value}
use Rattle.std.specs.List.{list_all}
use Rattle.unicode_ident.specs.Ident.{is_xid_start, is_xid_continue}
use Rattle.sq_token.specs.declared.kind.Reserved.{Reserved}
use Rattle.sq_token.specs.declared.kind.Reserved.TheVariants.{Hash, Signature, Name, Abstract}
use Rattle.sq_token.specs.declared.kind.Reserved.TheVariants.{Channel, Process, System, Axiom}
use Rattle.sq_token.specs.declared.kind.Reserved.TheVariants.{Lemma, Equiv, Diff, Proof, Qed, Null}
use Rattle.sq_token.specs.declared.kind.Reserved.TheVariants.{New, In, Out, If, Then, Else, Find}
use Rattle.sq_token.specs.declared.kind.Reserved.TheVariants.{Such, That, Let, Forall, Exists, True}
use Rattle.sq_token.specs.declared.kind.Reserved.TheVariants.{False, Empty, Not, Happens, Init}
use Rattle.sq_token.specs.declared.kind.Reserved.TheVariants.{Pred, Input, Output, Cond, Exec}
use Rattle.sq_token.specs.declared.kind.Reserved.TheVariants.{Frame, Fst, Snd, OfBool, Att, Index}
use Rattle.sq_token.specs.declared.kind.Reserved.TheVariants.{Message, Boolean, Timestamp, Mutable}
use Rattle.sq_token.specs.declared.kind.Reserved.TheVariants.{As, By, From}
use Rattle.sq_token.specs.declared.kind.Punctuation.{Punctuation}
use Rattle.sq_token.specs.declared.kind.Punctuation.TheVariants.{Dot, Comma, Colon, Semicolon}
use Rattle.sq_token.specs.declared.kind.Punctuation.TheVariants.{Equals, Differs, Less, Greater}
use Rattle.sq_token.specs.declared.kind.Punctuation.TheVariants.{AtMost, Implies, LeftArrow}
use Rattle.sq_token.specs.declared.kind.Punctuation.TheVariants.{OpenParenthesis, CloseParenthesis}
use Rattle.sq_token.specs.declared.kind.Punctuation.TheVariants.{OpenBracket, CloseBracket, And, Or}
use Rattle.sq_token.specs.declared.kind.Punctuation.TheVariants.{Bar, Repeat, At, Arrow}
use Rattle.sq_token.specs.declared.kind.TokenKind.{TokenKind}
use Rattle.sq_token.specs.declared.kind.TokenKind.TheVariants as kind

abbrev pub reserved_text : Reserved → List ℕ
reserved_text Hash = codes "hash"
reserved_text Signature = codes "signature"
reserved_text Name = codes "name"
reserved_text Abstract = codes "abstract"
reserved_text Channel = codes "channel"
reserved_text Process = codes "process"
reserved_text System = codes "system"
reserved_text Axiom = codes "axiom"
reserved_text Lemma = codes "lemma"
reserved_text Equiv = codes "equiv"
reserved_text Diff = codes "diff"
reserved_text Proof = codes "Proof"
reserved_text Qed = codes "Qed"
reserved_text Null = codes "null"
reserved_text New = codes "new"
reserved_text In = codes "in"
reserved_text Out = codes "out"
reserved_text If = codes "if"
reserved_text Then = codes "then"
reserved_text Else = codes "else"
reserved_text Find = codes "find"
reserved_text Such = codes "such"
reserved_text That = codes "that"
reserved_text Let = codes "let"
reserved_text Forall = codes "forall"
reserved_text Exists = codes "exists"
reserved_text True = codes "true"
reserved_text False = codes "false"
reserved_text Empty = codes "empty"
reserved_text Not = codes "not"
reserved_text Happens = codes "happens"
reserved_text Init = codes "init"
reserved_text Pred = codes "pred"
reserved_text Input = codes "input"
reserved_text Output = codes "output"
reserved_text Cond = codes "cond"
reserved_text Exec = codes "exec"
reserved_text Frame = codes "frame"
reserved_text Fst = codes "fst"
reserved_text Snd = codes "snd"
reserved_text OfBool = codes "of_bool"
reserved_text Att = codes "att"
reserved_text Index = codes "index"
reserved_text Message = codes "message"
reserved_text Boolean = codes "boolean"
reserved_text Timestamp = codes "timestamp"
reserved_text Mutable = codes "mutable"
reserved_text As = codes "as"
reserved_text By = codes "by"
reserved_text From = codes "from"

abbrev pub punctuation_text : Punctuation → List ℕ
punctuation_text Dot = codes "."
punctuation_text Comma = codes ","
punctuation_text Colon = codes ":"
punctuation_text Semicolon = codes ";"
punctuation_text Equals = codes "="
punctuation_text Differs = codes "<>"
punctuation_text Less = codes "<"
punctuation_text Greater = codes ">"
punctuation_text AtMost = codes "<="
punctuation_text Implies = codes "=>"
punctuation_text LeftArrow = codes "<-"
punctuation_text OpenParenthesis = codes "("
punctuation_text CloseParenthesis = codes ")"
punctuation_text OpenBracket = codes "["
punctuation_text CloseBracket = codes "]"
punctuation_text And = codes "&&"
punctuation_text Or = codes "||"
punctuation_text Bar = codes "|"
punctuation_text Repeat = codes "!_"
punctuation_text At = codes "@"
punctuation_text Arrow = codes "->"

-- all reserved words
abbrev pub reserved_words : List Reserved
reserved_words = Hash ∷ Signature ∷ Name ∷ Abstract ∷ Channel ∷ Process ∷ System ∷ Axiom ∷ Lemma
    ∷ Equiv ∷ Diff ∷ Proof ∷ Qed ∷ Null ∷ New ∷ In ∷ Out ∷ If ∷ Then ∷ Else ∷ Find ∷ Such ∷ That
    ∷ Let ∷ Forall ∷ Exists ∷ True ∷ False ∷ Empty ∷ Not ∷ Happens ∷ Init ∷ Pred ∷ Input
    ∷ Output ∷ Cond ∷ Exec ∷ Frame ∷ Fst ∷ Snd ∷ OfBool ∷ Att ∷ Index ∷ Message ∷ Boolean
    ∷ Timestamp ∷ Mutable ∷ As ∷ By ∷ From ∷ []

-- the reserved word of this text
unfoldable pub reserved_of : List ℕ → Option Reserved
reserved_of text = find (λ r. bytes_eq (reserved_text r) text) reserved_words

-- the number that these decimal digits write
abbrev pub number_value : List ℕ → ℕ
number_value = digits_value 10

-- whether an identifier may begin with the character
abbrev pub is_start : ℕ → Bool
is_start c = is_xid_start c || (c == 95)

-- a start character, and then characters that continue an identifier
abbrev pub is_name : List ℕ → Bool
is_name [] = false
is_name (c ∷ cs) = is_start c && list_all is_xid_continue cs

-- a text in UTF-8 that is written as an identifier and is no reserved word
abbrev pub is_identifier : List ℕ → Bool
is_identifier text = is_utf8 text && is_name (chars text) && is_none (reserved_of text)

abbrev pub IsIdentifier : List ℕ → Type 0
IsIdentifier text = IsTrue (is_identifier text)

-- one decimal digit or more, of a value below 2^128
abbrev pub is_number : List ℕ → Bool
is_number [] = false
is_number (c ∷ cs) = all_ascii_digits (c ∷ cs) && nat_lt (number_value (c ∷ cs)) (2 ^ 128)

abbrev pub is_of_kind : TokenKind → List ℕ → Bool
is_of_kind kind.Identifier text = is_identifier text
is_of_kind (kind.Reserved r) text = bytes_eq text (reserved_text r)
is_of_kind kind.Number text = is_number text
is_of_kind (kind.Punctuation p) text = bytes_eq text (punctuation_text p)

-- the text is one of its kind
abbrev pub IsOfKind : TokenKind → List ℕ → Type 0
IsOfKind k text = IsTrue (is_of_kind k text)
