use Rattle.std.proofs.Common.{refl, arith}
use Rattle.sq_token.specs.Sign.{signs}
use Rattle.sq_ast.specs.View.{formula_tree}
use Rattle.sq_ast.specs.Deep.{height}
use Rattle.sq_parse_term.specs.Answers.{tree}
use Rattle.sq_parse_term.proofs.Answered.{longest_is, formula_is, none_is, place_is, over, shorter}
use Rattle.sq_parse_term.proofs.Answered.{rest_is, nothing_is}
use Rattle.sq_parse_term.proofs.parser.parse_formula.Goals as goal

pub returns-in-Err-TooDeep-clause-deep : goal.returns-in-Err-TooDeep-clause-deep
returns-in-Err-TooDeep-clause-deep c = λ h. place_is _
    (rw (c.in-Err-TooDeep.field-0-is, c.split_at.ensures.back) at c.in-Err-TooDeep.ensures)

pub returns-in-Err-None-clause-none : goal.returns-in-Err-None-clause-none
returns-in-Err-None-clause-none c = none_is _
    (rw (c.in-Err-None.field-0-is, c.split_at.ensures.back) at c.in-Err-None.ensures)

pub overflow_sub-result : goal.overflow_sub-result
overflow_sub-result c =
    shorter c.args.from c.args.tokens.now c.in-Ok.rest.now (formula_tree c.in-Ok.formula)
    (omega arith) (rw c.split_at.ensures.back at c.in-Ok.ensures)

pub returns-then-not-fits-clause-deep : goal.returns-then-not-fits-clause-deep
returns-then-not-fits-clause-deep c = λ h.
    let read = rw c.split_at.ensures.back at c.in-Ok.ensures in
    tree (formula_tree c.in-Ok.formula) _ (longest_is 256 _ _ _ read)
    (over (height (formula_tree c.in-Ok.formula)) 256 c.if-not-fits.ensures.1)

pub returns-else-not-fits-clause-found : goal.returns-else-not-fits-clause-found
returns-else-not-fits-clause-found c =
    let read = rw c.split_at.ensures.back at c.in-Ok.ensures in
    rw (rest_is c.args.from c.args.tokens.now c.in-Ok.rest.now (formula_tree c.in-Ok.formula)
    (omega arith) read)
    (formula_is _ (formula_tree c.in-Ok.formula) (signs c.in-Ok.rest.now) read
    (c.if-not-fits.ensures.0 refl))

pub returns-then-from-tokens-clause-none : goal.returns-then-from-tokens-clause-none
returns-then-from-tokens-clause-none c = nothing_is c.args.from c.args.tokens.now (omega arith)
