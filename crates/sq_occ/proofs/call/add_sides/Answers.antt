use Rattle.std.proofs.Common.{sym, subst}
use Rattle.sq_term.specs.declared.term.Side.{Side}
use Rattle.sq_term.specs.Systems.{system_tree}
use Rattle.sq_term.specs.View.{term_tree}
use Rattle.sq_occ.specs.Searches.{places}
use Rattle.sq_occ.specs.Calls.Lists.{growing, Refuses}
use Rattle.sq_occ.proofs.Growth.{adds_err, adds_stop}
use Rattle.sq_occ.proofs.call.add_sides.Goals as goal

pub returns-in_err-add_side-in-Both : goal.returns-in_err-add_side-in-Both
returns-in_err-add_side-in-Both c =
    let x = c.in_err-add_side-in-Both.field-0.0 in
    let start = growing c.args.list.now in
    adds_err c.from_residual.result x start (growing c.add_side-in-Both.new.list) _
    c.from_residual.ensures.1
    (subst
    (λ (side : Side). Refuses x start.room
    (places c.args.env.now.funs (system_tree c.args.system.now) c.args.name side
    (term_tree c.args.t.now)))
    (sym c.in-Both.is)
    (adds_stop x start.room _ _ c.in_err-add_side-in-Both.ensures))
