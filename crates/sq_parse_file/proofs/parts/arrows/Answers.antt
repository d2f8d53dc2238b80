use Rattle.std.proofs.Common.{◌≡◌, ◌-◌, ◌+◌, length, arith}
use Rattle.sq_token.specs.Sign.{signs}
use Rattle.sq_parse_term.proofs.Steps.{not_eaten}
use Rattle.sq_parse_file.specs.Read.{arrow}
use Rattle.sq_parse_file.proofs.Turns.{arrows_next, arrows_end, arrows_out}
use Rattle.sq_parse_file.proofs.parts.arrows.Goals as goal

pub returns-in_default : goal.returns-in_default
returns-in_default c =
    arrows_end c.args.word _ _ _ _ c.loop-turn.invariant (omega arith)
    (not_eaten _ (arrow c.args.word (signs c.loop-turn.rest.now)) c.in_default.ensures)

pub loop-turn-preserved : goal.loop-turn-preserved
loop-turn-preserved c =
    let less : length c.args.tokens.now - (c.loop-turn._turn + 1)
    ≡ length c.args.tokens.now - c.loop-turn._turn - 1 = omega arith in
    rw (c.in-Some.ensures.1, less)
    (arrows_next c.args.word _ _ _ _ c.loop-turn.invariant (omega arith) _ c.in-Ok.ensures)

pub returns : goal.returns
returns c = arrows_out c.args.word _ _ _ _ c.loop-turn.invariant (omega arith)
