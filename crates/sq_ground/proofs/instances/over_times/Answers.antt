use Rattle.std.proofs.Common.{ap, ◌∙◌, ◌++◌, [], ◌∷◌, map, length-append, arith, None}
use Rattle.sq_term.specs.declared.model.Value.TheVariants.{Time as Moment}
use Rattle.sq_term.specs.Lists.{count}
use Rattle.sq_ground.specs.Calls.Instances.{with_position}
use Rattle.sq_ground.proofs.InstanceLists.{count_next, count_done, length-counted}
use Rattle.sq_ground.proofs.instances.over_times.Goals as goal

pub returns-then-positions-ge-MOST_INSTANCES : goal.returns-then-positions-ge-MOST_INSTANCES
returns-then-positions-ge-MOST_INSTANCES c e =
    let f = with_position c.args.bs.now in
    omega (
      arith,
      length-counted f 0 c.args.positions,
      length-append
          (map f (count 0 c.args.positions)) ((Moment None ∷ c.args.bs.now) ∷ []),
    )

pub loop-k-preserved : goal.loop-k-preserved
loop-k-preserved c =
    let f = with_position c.args.bs.now in
    count_next f c.loop-k.lists _ _ c.in_ok-inside.field-0 c.loop-k.k c.args.positions
    c.loop-k-test.true c.in_ok-push.ensures.ok c.in_ok-inside.ensures c.loop-k.invariant

pub returns : goal.returns
returns c =
    let f = with_position c.args.bs.now in
    let all =
    count_done f c.loop-k.lists _ c.loop-k.k c.args.positions c.loop-k-test.false
    c.loop-k.invariant in (
      (c.in_ok-push-2.ensures.ok ∙ ap (λ x. c.loop-k.lists ++ x ∷ []) c.in_ok-inside-2.ensures)
          ∙ ap (λ ys. ys ++ (Moment None ∷ c.args.bs.now) ∷ []) all,
      omega (
        arith,
        length-counted f 0 c.args.positions,
        length-append
            (map f (count 0 c.args.positions)) ((Moment None ∷ c.args.bs.now) ∷ []),
      ),
    )
