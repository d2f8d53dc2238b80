use Rattle.std.proofs.Common.{rules, ◌≡◌, map}
use Rattle.sq_term.specs.declared.term.SizeFault.TheVariants.{TooLarge}
use Rattle.sq_term.specs.Ground.{ground}
use Rattle.sq_ground.specs.Calls.Builds.{Passes}
use Rattle.sq_ground.specs.Calls.Rows.{built_ground, nested}
use Rattle.sq_ground.proofs.Joins.{nested_passes, nest_step, choice_passes}
use Rattle.sq_ground.proofs.row.nest.Goals as goal

pub returns-in_err-all : goal.returns-in_err-all
returns-in_err-all c =
    let h : c.in_err-all.field-0.0 ≡ TooLarge
    → Passes c.args.room
    (nested (map built_ground c.args.tests.parts) (map built_ground c.args.founds.parts)
    (ground c.args.other.term)) =
    λ e. nested_passes c.args.room (ground c.args.other.term) (map built_ground c.args.tests.parts)
    (map built_ground c.args.founds.parts) (c.in_err-all.ensures e) in
    search rules

pub returns-in_err-all-in-Some-pop : goal.returns-in_err-all-in-Some-pop
returns-in_err-all-in-Some-pop c =
    let h : c.in_err-all-in-Some-pop.field-0.0 ≡ TooLarge
    → Passes c.args.room
    (nested (map built_ground c.args.tests.parts) (map built_ground c.args.founds.parts)
    (ground c.args.other.term)) =
    λ e. choice_passes c.args.room c.loop-test.tests c.pop.new.self c.loop-test.founds
    c.pop-in-Some.new.self c.in-Some.test c.in-Some-pop.found c.loop-test.all _
    c.in-Some.ensures c.in-Some-pop.ensures
    (c.in_err-all-in-Some-pop.ensures e) c.loop-test.invariant in
    search rules

pub loop-test-preserved : goal.loop-test-preserved
loop-test-preserved c =
    nest_step c.args.room c.loop-test.tests c.pop.new.self c.loop-test.founds c.pop-in-Some.new.self
    c.in-Some.test c.in-Some-pop.found c.loop-test.all c.in_ok-all-in-Some-pop.all _
    c.in-Some.ensures c.in-Some-pop.ensures c.in_ok-all-in-Some-pop.ensures
    c.loop-test.invariant
