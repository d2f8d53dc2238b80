use Rattle.std.proofs.Common.{◌≡◌, ap, sym, ◌∙◌, subst, []}
use Rattle.std.specs.Prelude.{IfOk}
use Rattle.std.specs.Option.{option_copied}
use Rattle.sq_term.specs.Translate.{translate}
use Rattle.sq_term.specs.Systems.{ActionTree, action_at, action_tree, system_tree, no_action}
use Rattle.sq_ground.specs.Calls.Readings.{kept, seen, given}
use Rattle.sq_ground.specs.Calls.Alike.{Alike}
use Rattle.sq_ground.proofs.Systems.{action_at-some, action_at-none}
use Rattle.sq_ground.proofs.table.cond_of.Goals as goal

pub returns-in-Some : goal.returns-in-Some
returns-in-Some c =
    let e : action_at (system_tree c.args.s.now) c.args.act ≡ action_tree c.in-Some.action.now =
    action_at-some c.args.s.now c.args.act c.in-Some.action.now
    (sym c.action.ensures ∙ ap option_copied c.in-Some.is) in
    subst (λ (x : ActionTree). IfOk c.keep.result
    (λ k. Alike c.args.room (kept k)
    (translate (seen c.args.w.now) (given c.args.w.now) [] x.cond))) (sym e)
    (c.keep.ensures c.args.room _ c.build.ensures)

pub returns-in-None : goal.returns-in-None
returns-in-None c =
    let e : action_at (system_tree c.args.s.now) c.args.act ≡ no_action =
    action_at-none c.args.s.now c.args.act
    (sym c.action.ensures ∙ ap option_copied c.in-None.is) in
    subst (λ (x : ActionTree). IfOk c.keep-in-None.result
    (λ k. Alike c.args.room (kept k)
    (translate (seen c.args.w.now) (given c.args.w.now) [] x.cond))) (sym e)
    (c.keep-in-None.ensures c.args.room _ c.truth.ensures)
