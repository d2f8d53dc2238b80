use Rattle.std.proofs.Common.{sym, ◌∙◌, true≢false}
use Rattle.sq_token.specs.Sign.{word}
use Rattle.sq_parse_term.proofs.Turns.{eat_when, eat_unless}
use Rattle.sq_parse_file.proofs.parts.eat_text.Goals as goal

pub returns : goal.returns
returns c = eat_when (word c.args.text.now) c.in-Some.token.now _ _ c.in-Some.ensures.cases.0
    (c.is_word.ensures.0 c.if-not-is_word.false)

pub returns-then-not-is_word : goal.returns-then-not-is_word
returns-then-not-is_word c = eat_unless
    (word c.args.text.now) c.in-Some.token.now _ _ c.in-Some.ensures.cases.0
    (λ e. true≢false (sym (c.is_word.ensures.1 e) ∙ c.if-not-is_word.true))
