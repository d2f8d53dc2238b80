use Rattle.std.proofs.Common.{rules}
use Rattle.sq_term.specs.Symbols.{kind_of}
use Rattle.sq_term.specs.View.{term_tree}
use Rattle.sq_system.specs.Faults.{list_fault}
use Rattle.sq_occ.specs.Calls.Bodies.{scan_of}
use Rattle.sq_occ.specs.Calls.Lists.{growing}
use Rattle.sq_occ.proofs.Depths.{key_refused}
use Rattle.sq_occ.proofs.Growth.{adds_err}
use Rattle.sq_occ.proofs.place.Scan.add_key.Goals as goal

pub returns-in_err-arg : goal.returns-in_err-arg
returns-in_err-arg c =
    adds_err c.from_residual-in_err-arg.result (list_fault c.in_err-arg.field-0.0)
    (growing c.args.list.now) (growing c.args.list.now) _ c.from_residual-in_err-arg.ensures.1
    (key_refused (scan_of c.args.self.now) c.args.indices.now (kind_of c.args.f)
    (term_tree c.args.message.now) c.args.test c.args.above.now c.in_ok-binders.binders
    c.args.list.now.room c.side.result c.in_err-arg.field-0.0 c.side.ensures (search rules)
    c.in_err-arg.ensures)
