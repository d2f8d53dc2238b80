use Rattle.std.proofs.Common.{◌≡◌, ◌+◌, length}
use Rattle.sq_token.specs.Sign.{signs}
use Rattle.sq_parse_term.proofs.Turns.{with_front}
use Rattle.sq_parse_file.specs.Read.{all_numbers}
use Rattle.sq_parse_file.proofs.parts.all_numbers.Given as goal

abbrev pub invariant-loop-turn : goal.invariant-loop-turn
invariant-loop-turn l =
    (with_front l.found (all_numbers (signs l.rest)) ≡ all_numbers (signs l.tokens))
    × (length l.rest + l._turn ≡ length l.tokens)
