use Rattle.std.proofs.lemmas.Str.Pattern.{starts_text}
use Rattle.sq_lex.proofs.piece.begins.Goals as goal

pub returns : goal.returns
returns c = rw (← c.text.ensures) (starts_text _ _ _ c.starts_with.ensures.cases)
