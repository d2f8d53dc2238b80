use Rattle.std.proofs.Common.{◌<◌, length, arith}
use Rattle.std.proofs.lemmas.Bool.Decides.{nat_tests}
use Rattle.sq_print.proofs.Rows.{ended_open}
use Rattle.sq_print.proofs.pieces.end_function.Goals as goal

pub returns-then-not-is_empty-2 : goal.returns-then-not-is_empty-2
returns-then-not-is_empty-2 c =
    let test = c.is_empty-2.ensures in
    let other = c.if-not-is_empty-2.true in
    let some : 0 < length c.args.arguments.now = grind (arith, nat_tests, test, other) in
    rw (ended_open c.args.indices.now c.args.arguments.now c.args.out.now some)
    c.push_str-then-not-is_empty-2.ensures.ok
