use Rattle.std.proofs.Common.{◌≡◌, ◌-◌, length}
use Rattle.sq_token.specs.Sign.{signs}
use Rattle.sq_parse_term.specs.Parse.{listed, binder_group}
use Rattle.sq_parse_term.proofs.Turns.{with_front}
use Rattle.sq_parse_term.proofs.tokens.binders.Given as goal

abbrev pub invariant-loop-turn : goal.invariant-loop-turn
invariant-loop-turn l = with_front l.groups
    (listed binder_group (l._turn-end - l._turn) (signs l.rest))
    ≡ listed binder_group (length (signs l.tokens)) (signs l.tokens)
