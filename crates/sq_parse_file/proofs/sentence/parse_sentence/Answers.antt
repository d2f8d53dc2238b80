use Rattle.std.proofs.Common.{refl}
use Rattle.sq_ast.specs.Forms.{sentence_height}
use Rattle.sq_parse_term.proofs.Answered.{over}
use Rattle.sq_parse_file.specs.Answers.{item_tree}
use Rattle.sq_parse_file.proofs.Sentences.{item_is, none_is, deep_is, high_is}
use Rattle.sq_parse_file.proofs.sentence.parse_sentence.Goals as goal

pub returns-in-Err-None-clause-syntax : goal.returns-in-Err-None-clause-syntax
returns-in-Err-None-clause-syntax c = λ h. none_is _
    (rw (c.in-Err-None.field-0-is, c.as_slice.ensures) at c.in-Err-None.ensures)

pub returns-in-Err-TooDeep-clause-deep : goal.returns-in-Err-TooDeep-clause-deep
returns-in-Err-TooDeep-clause-deep c = λ h. deep_is _
    (rw (c.in-Err-TooDeep.field-0-is, c.as_slice.ensures) at c.in-Err-TooDeep.ensures)

pub returns-then-not-item_fits-clause-deep : goal.returns-then-not-item_fits-clause-deep
returns-then-not-item_fits-clause-deep c = λ h. high_is _ (item_tree c.in-Ok.item)
    (rw c.as_slice.ensures at c.in-Ok.ensures)
    (over (sentence_height (item_tree c.in-Ok.item)) 256 c.if-not-item_fits.ensures.1)

pub returns-clause-ok : goal.returns-clause-ok
returns-clause-ok c = item_is _ (item_tree c.in-Ok.item)
    (rw c.as_slice.ensures at c.in-Ok.ensures)
    (c.if-not-item_fits.ensures.0 refl)
