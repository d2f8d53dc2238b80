use Rattle.std.proofs.Common.{sym, ◌∙◌, true≢false}
use Rattle.sq_token.specs.Sign.{reserved}
use Rattle.sq_parse_term.proofs.Turns.{eat_when, eat_unless}
use Rattle.sq_parse_term.proofs.tokens.eat_word.Goals as goal

pub returns : goal.returns
returns c = eat_when (reserved c.args.word) c.in-Some.token.now _ _ c.in-Some.ensures.cases.0
    (c.is_reserved.ensures.0 c.if-not-is_reserved.false)

pub returns-then-not-is_reserved : goal.returns-then-not-is_reserved
returns-then-not-is_reserved c = eat_unless
    (reserved c.args.word) c.in-Some.token.now _ _ c.in-Some.ensures.cases.0
    (λ e. true≢false (sym (c.is_reserved.ensures.1 e) ∙ c.if-not-is_reserved.true))
