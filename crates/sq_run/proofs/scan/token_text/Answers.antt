use Rattle.std.proofs.Common.{sym, ◌∙◌}
use Rattle.sq_run.proofs.Scans.{token_is_utf8}
use Rattle.sq_run.proofs.scan.token_text.Goals as goal

pub returns-in-Err : goal.returns-in-Err
returns-in-Err c =
    absurd (c.in-Err.ensures.cases.0
    (token_is_utf8 c.args.token.now (sym c.is_token.ensures ∙ c.if-not-is_token.false)))
