use Rattle.sq_lex.proofs.Numbers.{digits_boundary, digits_wide}
use Rattle.sq_lex.proofs.piece.number.Goals as goal

pub split_at-requires : goal.split_at-requires
split_at-requires c =
    digits_boundary c.args.text.now c.args.len c.utf8.text c.requires.some c.requires.digits

pub returns-in-Err : goal.returns-in-Err
returns-in-Err c =
    let parsed = c.parse.ensures.value.0 in
    digits_wide c.args.text.now _ c.args.len _ _ c.requires.some c.requires.digits
    c.split_at.ensures.front parsed c.in-Err.is
