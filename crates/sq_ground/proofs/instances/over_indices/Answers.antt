use Rattle.std.proofs.Common.{arith}
use Rattle.sq_ground.specs.Calls.Instances.{with_index}
use Rattle.sq_ground.proofs.InstanceLists.{count_next, count_done, length-counted}
use Rattle.sq_ground.proofs.instances.over_indices.Goals as goal

pub returns-then-d-gt-MOST_INSTANCES : goal.returns-then-d-gt-MOST_INSTANCES
returns-then-d-gt-MOST_INSTANCES c e =
    omega (arith, length-counted (with_index c.args.bs.now) 0 c.args.d)

pub loop-k-preserved : goal.loop-k-preserved
loop-k-preserved c =
    let f = with_index c.args.bs.now in
    count_next f c.loop-k.lists _ _ c.in_ok-inside.field-0 c.loop-k.k c.args.d c.loop-k-test.true
    c.in_ok-push.ensures.ok c.in_ok-inside.ensures c.loop-k.invariant

pub returns : goal.returns
returns c =
    let f = with_index c.args.bs.now in (
      count_done f c.loop-k.lists _ c.loop-k.k c.args.d c.loop-k-test.false c.loop-k.invariant,
      omega (arith, length-counted f 0 c.args.d),
    )
