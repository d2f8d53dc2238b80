-- What the lexer keeps between two tokens.
use Rattle.std.specs.Prelude.{ℕ, List, [], ◌∷◌, ◌++◌}
use Rattle.sq_token.specs.declared.token.Token.{Token}
use Rattle.sq_lex.specs.declared.sentences.Sentences.{Sentences}

-- the line of the first of these tokens, or this one where there are none yet
abbrev pub first_line : List Token → ℕ → ℕ → ℕ
first_line [] line known = line
first_line (t ∷ ts) line known = known

-- a stop on this line ends a sentence
abbrev pub closed : Sentences → ℕ → Sentences
closed s line = record s {
  done = s.done ++ record { tokens = s.tokens; line = first_line s.tokens line s.line } ∷ [];
  tokens = [];
  line = first_line s.tokens line s.line;
}

-- a token on this line belongs to the sentence that is open
abbrev pub grown : Sentences → Token → ℕ → Sentences
grown s token line = record s {
  tokens = s.tokens ++ token ∷ [];
  line = first_line s.tokens line s.line;
}
