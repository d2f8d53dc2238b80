use Rattle.sq_printed.proofs.TreeTexts.{text_is, is_formula}
use Rattle.sq_printed.proofs.laws.a_printed_term_is_a_formula.Goals as goal

pub returns-clause-text : goal.returns-clause-text
returns-clause-text c = text_is

pub returns-clause-formula : goal.returns-clause-formula
returns-clause-formula c = is_formula
