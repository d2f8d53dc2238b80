use Rattle.std.proofs.Common.{sym, ap, ◌∙◌, subst, List, [], map}
use Rattle.sq_term.specs.Systems.{system_tree}
use Rattle.sq_term.specs.View.{term_tree}
use Rattle.sq_occ.specs.Entries.{OccTree}
use Rattle.sq_occ.specs.Calls.Bodies.{met_in_all, places_of}
use Rattle.sq_occ.specs.Calls.Lists.{growing, Adds}
use Rattle.sq_occ.proofs.Called.{side_plain, side_found, side_stop}
use Rattle.sq_occ.proofs.Growth.{adds_err}
use Rattle.sq_occ.proofs.call.add_side.Goals as goal

pub returns-then-not-reads_macro : goal.returns-then-not-reads_macro
returns-then-not-reads_macro c =
    subst
    (λ (us : List OccTree). Adds (growing c.args.list.now) (growing c.scan.new.list) c.scan.result
    us)
    (side_plain c.args.env.now.funs c.args.name c.args.left (system_tree c.args.system.now)
    (term_tree c.args.t.now) (met_in_all [])
    (sym c.reads_macro.ensures ∙ c.if-not-reads_macro.true))
    (rw c.as_slice.ensures at c.scan.ensures)

pub returns-in_err-bodies : goal.returns-in_err-bodies
returns-in_err-bodies c =
    adds_err c.from_residual.result c.in_err-bodies.field-0.0 (growing c.args.list.now)
    (growing c.args.list.now) _ c.from_residual.ensures.1
    (side_stop c.args.env.now.funs c.args.name c.args.left (system_tree c.args.system.now)
    (term_tree c.args.t.now) c.in_err-bodies.field-0.0 c.args.list.now.room
    (sym c.reads_macro.ensures ∙ c.if-not-reads_macro.false)
    (rw (c.as_slice.ensures, c.actions.ensures) at c.in_err-bodies.ensures))

pub returns : goal.returns
returns c =
    subst
    (λ (us : List OccTree). Adds (growing c.args.list.now) (growing c.scan-2.new.list)
    c.scan-2.result us)
    (side_found c.args.env.now.funs c.args.name c.args.left (system_tree c.args.system.now)
    (term_tree c.args.t.now) c.as_slice-2.result.now
    (ap (map places_of) c.as_slice-2.ensures
    ∙ (rw (c.as_slice.ensures, c.actions.ensures) at c.in_ok-bodies.ensures)))
    (rw c.as_slice.ensures at c.scan-2.ensures)
