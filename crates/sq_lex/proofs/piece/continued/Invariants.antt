use Rattle.std.proofs.Common.{◌≡◌, ◌+◌, length, chars}
use Rattle.std.specs.Str.{IsUtf8}
use Rattle.std.specs.Str.Iter.{chars_rest}
use Rattle.sq_lex.specs.Pieces.{continued}
use Rattle.sq_lex.proofs.piece.continued.Given as goal

abbrev pub invariant-chars : goal.invariant-chars
invariant-chars l =
    (l.len + continued (chars (chars_rest l.rest)) ≡ continued (chars l.text))
    × IsUtf8 (chars_rest l.rest)
    × (l.len + length (chars_rest l.rest) ≡ length l.text)
