use Rattle.std.proofs.Common.{rules, ◌≡◌, ◌<◌, ◌≤◌, sym, subst, length}
use Rattle.sq_term.specs.declared.term.SizeFault.TheVariants.{TooLarge}
use Rattle.sq_term.specs.Translate.{choices}
use Rattle.sq_term.specs.Models.{times_of}
use Rattle.sq_ground.proofs.InstanceLists.{choices_step, choices_too_many, choices_all}
use Rattle.sq_ground.proofs.instances.choices_of_several.Goals as goal

pub returns-in_err-lists : goal.returns-in_err-lists
returns-in_err-lists c =
    let w = times_of c.args.m.now in
    let h : c.in_err-lists.field-0.0 ≡ TooLarge → 1024 < length (choices w c.args.c c.args.bs.now) =
    λ e. choices_too_many w c.args.c c.loop-done.done c.loop-done.lists c.as_slice.result.now _
    c.loop-done-test.true c.as_slice.ensures c.loop-done.invariant.rest
    (c.in_err-lists.ensures e) in
    search rules

pub loop-done-preserved : goal.loop-done-preserved
loop-done-preserved c = record {
  rest = choices_step
      (times_of c.args.m.now) c.args.c c.loop-done.done c.loop-done.lists c.as_slice.result.now
      c.in_ok-lists.lists _ c.loop-done-test.true c.as_slice.ensures c.in_ok-lists.ensures.0
      c.loop-done.invariant.rest;
  few = subst (λ xs. length xs ≤ 1024) (sym c.in_ok-lists.ensures.0) c.in_ok-lists.ensures.1;
}

pub returns : goal.returns
returns c =
    let all =
    choices_all
    (times_of c.args.m.now) c.args.c c.loop-done.done c.loop-done.lists _ c.loop-done-test.false
    c.loop-done.invariant.rest in
    (all, subst (λ xs. length xs ≤ 1024) all c.loop-done.invariant.few)
