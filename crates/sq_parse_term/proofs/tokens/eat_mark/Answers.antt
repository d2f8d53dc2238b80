use Rattle.std.proofs.Common.{sym, ◌∙◌, true≢false}
use Rattle.sq_token.specs.Sign.{mark}
use Rattle.sq_parse_term.proofs.Turns.{eat_when, eat_unless}
use Rattle.sq_parse_term.proofs.tokens.eat_mark.Goals as goal

pub returns : goal.returns
returns c = eat_when (mark c.args.symbol) c.in-Some.token.now _ _ c.in-Some.ensures.cases.0
    (c.is_mark.ensures.0 c.if-not-is_mark.false)

pub returns-then-not-is_mark : goal.returns-then-not-is_mark
returns-then-not-is_mark c = eat_unless
    (mark c.args.symbol) c.in-Some.token.now _ _ c.in-Some.ensures.cases.0
    (λ e. true≢false (sym (c.is_mark.ensures.1 e) ∙ c.if-not-is_mark.true))
