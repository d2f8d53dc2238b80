use Rattle.std.proofs.Common.{◌≡◌, suc, ◌+◌, ◌∙◌, ◌∷◌, ap, drop, arith}
use Rattle.sq_ground.proofs.Refusals.{drop_next}
use Rattle.sq_kernel.proofs.Loops.{named_next}
use Rattle.sq_kernel.proofs.extending.name_each.Goals as goal

pub loop-names-preserved : goal.loop-names-preserved
loop-names-preserved c =
    let one : suc c.loop-names.names-index ≡ c.loop-names.names-index + 1 = omega arith in
    named_next c.args.schemas.now _ c.loop-names.goals c.loop-names.left.items
    c.pop.new.self.items c.in-Some.sequent (drop c.loop-names.names-index c.args.names.now)
    c.loop-names.invariant c.in-Some.ensures.items c.as_slice.result.now c.names-item.result
    (drop (c.loop-names.names-index + 1) c.args.names.now) c.in_ok-goal_of-in-Some.field-0
    c.push.new.self
    (drop_next c.args.names.now c.loop-names.names-index c.names-item.result _
    c.loop-names-test.true c.names-item.is
    ∙ ap (λ k. c.names-item.result ∷ drop k c.args.names.now) one)
    c.as_slice.ensures c.in_ok-goal_of-in-Some.ensures c.in_ok-push-in-Some.ensures.ok
