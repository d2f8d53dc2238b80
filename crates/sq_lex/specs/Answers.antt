-- What a source is read as.
use Rattle.std.specs.Prelude.{ℕ, List, length, Result, Ok, Err}
use Rattle.sq_lex.specs.declared.fault.LexFault.{LexFault}
use Rattle.sq_lex.specs.Lexemes.{Lexeme, Line}
use Rattle.sq_lex.specs.Standing.{IsReached, AreCut}
use Rattle.sq_lex.specs.Faults.{IsFault}

-- the whole source is tokens, and these sentences are cut of them
pub record AreSentences (source : List ℕ) (sentences : List Line) : Type 0 where
  pub tokens : List Lexeme
  pub reached : IsReached source (length source) tokens
  pub are_cut : AreCut source sentences tokens

-- sentences, or the first fault
abbrev pub IsAnswer : List ℕ → Result (List Line) LexFault → Type 0
IsAnswer source (Ok sentences) = AreSentences source sentences
IsAnswer source (Err fault) = IsFault source fault
