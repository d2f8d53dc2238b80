use Rattle.std.proofs.Common.{subst}
use Rattle.sq_ast.specs.Grammar.{spelled}
use Rattle.sq_printed.specs.Trees.{term_syntax}
use Rattle.sq_printed.specs.Reads.{IsRead}
use Rattle.sq_printed.proofs.TreeTexts.{text_is}
use Rattle.sq_printed.proofs.Reading.{text_read}
use Rattle.sq_printed.proofs.laws.a_printed_term_is_read_as_its_tokens.Goals as goal

pub returns : goal.returns
returns c =
    λ ns around t h. subst (λ x. IsRead x (spelled (term_syntax ns around t))) (text_is ns around t)
    (text_read (term_syntax ns around t) h)
