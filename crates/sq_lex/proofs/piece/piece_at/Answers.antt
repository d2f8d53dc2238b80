use Rattle.std.proofs.Common.{◌<◌, chars, sym, subst, arith}
use Rattle.std.specs.Str.{IsCharBoundary}
use Rattle.sq_lex.specs.Pieces.{name_len}
use Rattle.sq_lex.proofs.Names.{name_boundary}
use Rattle.sq_lex.proofs.piece.piece_at.Goals as goal

pub word-requires : goal.word-requires
word-requires c =
    let text = c.args.text.now in
    let some : 0 < name_len (chars text) = omega (arith, c.name_len-name.ensures) in
    subst (IsCharBoundary text) (sym c.name_len-name.ensures) (name_boundary text c.utf8.text some)
