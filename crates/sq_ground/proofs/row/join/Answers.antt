use Rattle.std.proofs.Common.{rules, ◌≡◌, map}
use Rattle.sq_term.specs.declared.term.SizeFault.TheVariants.{TooLarge}
use Rattle.sq_term.specs.Builtins.{builtin_kind}
use Rattle.sq_ground.specs.Calls.Builds.{Passes}
use Rattle.sq_ground.specs.Calls.Rows.{built_ground, joined}
use Rattle.sq_ground.proofs.Joins.{join_start, last_passes, join_step, step_passes}
use Rattle.sq_ground.proofs.row.join.Goals as goal

pub returns-in_err-all-in-Some : goal.returns-in_err-all-in-Some
returns-in_err-all-in-Some c =
    let h : c.in_err-all-in-Some.field-0.0 ≡ TooLarge
    → Passes c.args.room
    (joined (builtin_kind c.args.connective) (builtin_kind c.args.unit)
    (map built_ground c.args.row.parts)) =
    λ e. last_passes (builtin_kind c.args.connective) c.args.room
    (builtin_kind c.args.unit) c.args.row.parts c.pop.new.self c.in-Some.last c.in-Some.ensures
    (c.in_err-all-in-Some.ensures e) in
    search rules

pub loop-part-init : goal.loop-part-init
loop-part-init c =
    join_start (builtin_kind c.args.connective) c.args.room
    (builtin_kind c.args.unit) c.args.row.parts c.pop.new.self c.in-Some.last
    c.in_ok-all-in-Some.all c.in-Some.ensures c.in_ok-all-in-Some.ensures

pub returns-in_err-all-in-Some-2 : goal.returns-in_err-all-in-Some-2
returns-in_err-all-in-Some-2 c =
    let h : c.in_err-all-in-Some-2.field-0.0 ≡ TooLarge
    → Passes c.args.room
    (joined (builtin_kind c.args.connective) (builtin_kind c.args.unit)
    (map built_ground c.args.row.parts)) =
    λ e. step_passes
    (builtin_kind c.args.connective) c.args.room c.loop-part.parts c.pop-in-loop-part.new.self
    c.in-Some-pop.part c.loop-part.all _ c.in-Some-pop.ensures
    (c.in_err-all-in-Some-2.ensures e) c.loop-part.invariant in
    search rules

pub loop-part-preserved : goal.loop-part-preserved
loop-part-preserved c =
    join_step
    (builtin_kind c.args.connective) c.args.room c.loop-part.parts c.pop-in-loop-part.new.self
    c.in-Some-pop.part c.loop-part.all c.in_ok-all-in-Some-2.all _ c.in-Some-pop.ensures
    c.in_ok-all-in-Some-2.ensures c.loop-part.invariant
