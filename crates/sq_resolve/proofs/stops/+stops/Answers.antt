use Rattle.std.proofs.Common.{◌<◌, ◌+◌, ◌*◌, arith}
use Rattle.sq_ast.specs.Deep.{height}
use Rattle.sq_ast.specs.View.{formula_tree}
use Rattle.sq_resolve.proofs.Rows.{height_at}
use Rattle.sq_resolve.proofs.stops.+stops.Goals as goal

pub stop_among-stop-requires : goal.stop_among-stop-requires
stop_among-stop-requires t c =
    let low =
    height_at c.args.args.now c.loop-arg.arg-index c.arg-item.result _ c.loop-arg-test.true
    c.arg-item.is in
    let at = c.decreases in
    let falls : 4 * height (formula_tree c.arg-item.result) + 1 < t = omega (arith, low, at) in
    (falls, tt)
