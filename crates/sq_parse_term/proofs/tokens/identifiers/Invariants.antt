use Rattle.std.proofs.Common.{◌≡◌, ◌-◌, length}
use Rattle.sq_token.specs.Sign.{signs}
use Rattle.sq_parse_term.specs.Parse.{listed, identifier}
use Rattle.sq_parse_term.proofs.Turns.{with_front}
use Rattle.sq_parse_term.proofs.tokens.identifiers.Given as goal

abbrev pub invariant-loop-turn : goal.invariant-loop-turn
invariant-loop-turn l = with_front l.names
    (listed identifier (l._turn-end - l._turn) (signs l.rest))
    ≡ listed identifier (length (signs l.tokens)) (signs l.tokens)
