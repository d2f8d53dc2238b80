-- What the grammar sees of a token.
use Rattle.std.specs.Prelude.{ℕ, List, map, Option, Some, None}
use Rattle.sq_token.specs.declared.kind.Reserved.{Reserved}
use Rattle.sq_token.specs.declared.kind.Punctuation.{Punctuation}
use Rattle.sq_token.specs.declared.kind.TokenKind.{TokenKind}
use Rattle.sq_token.specs.declared.kind.TokenKind.TheVariants as kind
use Rattle.sq_token.specs.declared.token.Token.{Token}
use Rattle.sq_token.specs.Kinds.{number_value}

-- an identifier or a number with its value, or a token that stands for itself
pub data Sign : Type 0 where
  word : List ℕ → Sign
  number : ℕ → Sign
  reserved : Reserved → Sign
  mark : Punctuation → Sign

abbrev pub sign : TokenKind → List ℕ → Sign
sign kind.Identifier text = word text
sign (kind.Reserved r) text = reserved r
sign kind.Number text = number (number_value text)
sign (kind.Punctuation p) text = mark p

abbrev pub sign_of : Token → Sign
sign_of t = sign t.kind t.text

abbrev pub signs : List Token → List Sign
signs = map sign_of

-- the text of an identifier
abbrev pub word_of : Sign → Option (List ℕ)
word_of (word text) = Some text
word_of _ = None

-- the value of a number
abbrev pub number_of : Sign → Option ℕ
number_of (number n) = Some n
number_of _ = None
