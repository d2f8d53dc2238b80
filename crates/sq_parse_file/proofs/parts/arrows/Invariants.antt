use Rattle.std.proofs.Common.{◌≡◌, ◌-◌}
use Rattle.sq_token.specs.Sign.{signs}
use Rattle.sq_parse_file.specs.Read.{arrows_within, read_arrows}
use Rattle.sq_parse_file.proofs.Turns.{after}
use Rattle.sq_parse_file.proofs.parts.arrows.Given as goal

abbrev pub invariant-loop-turn : goal.invariant-loop-turn
invariant-loop-turn l = after l.count (arrows_within (l._turn-end - l._turn) l.word (signs l.rest))
    ≡ read_arrows l.word (signs l.tokens)
