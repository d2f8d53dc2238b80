use Rattle.std.proofs.Common.{◌≡◌, ◌≤◌, ◌+◌, length}
use Rattle.sq_lex.specs.Pieces.{comment_len}
use Rattle.sq_lex.proofs.piece.comment_len.Given as goal

abbrev pub invariant-bytes : goal.invariant-bytes
invariant-bytes l =
    (comment_len l.inner l.len l.rest ≡ comment_len 0 2 l.inside)
    × (l.len + length l.rest ≡ 2 + length l.inside)
    × (l.inner ≤ l.len)

abbrev pub decreases-bytes : goal.decreases-bytes
decreases-bytes l = length l.rest
