use Rattle.std.proofs.Common.{◌≡◌, ◌-◌, ◌+◌, length, arith}
use Rattle.sq_parse_term.specs.Parse.{binder_group}
use Rattle.sq_parse_term.proofs.Turns.{turn_last, turn_next, turn_fails, turn_out, err_reads}
use Rattle.sq_parse_term.proofs.Steps.{not_eaten}
use Rattle.sq_parse_term.proofs.tokens.binders.Goals as goal

pub returns-in_err-group : goal.returns-in_err-group
returns-in_err-group c =
    err_reads (λ xs. xs) _ _ _ c.from_residual.ensures.1
    (turn_fails binder_group _ _ _ _ c.loop-turn.invariant _
    (omega arith) c.in_err-group.ensures)

pub returns-in_default : goal.returns-in_default
returns-in_default c =
    rw c.in_ok-push.ensures.ok (turn_last binder_group _ _ _ _ c.loop-turn.invariant
    (omega arith) _ _ c.in_ok-group.ensures (not_eaten _ _ c.in_default.ensures))

pub loop-turn-preserved : goal.loop-turn-preserved
loop-turn-preserved c =
    let less : length c.args.tokens.now - (c.loop-turn._turn + 1)
    ≡ length c.args.tokens.now - c.loop-turn._turn - 1 = omega arith in
    rw (c.in_ok-push.ensures.ok, less)
    (turn_next binder_group _ _ _ _ c.loop-turn.invariant
    (omega arith) _ _ _ c.in_ok-group.ensures c.in-Ok.ensures)

pub returns : goal.returns
returns c = turn_out binder_group _ _ _ _ c.loop-turn.invariant (omega arith)
