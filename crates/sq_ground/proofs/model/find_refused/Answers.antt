use Rattle.std.proofs.Common.{sym, ◌∙◌}
use Rattle.sq_term.specs.Systems.{system_tree}
use Rattle.sq_ground.proofs.Refusals.{passed, passed_each}
use Rattle.sq_ground.proofs.model.find_refused.Goals as goal

pub positions-preserved : goal.positions-preserved
positions-preserved c =
    let actions = system_tree c.args.s.now in
    let d = c.args.m.now.indices in
    let k = c.positions.k in
    let xs = c.as_slice-list.result.now in
    let x = c.index-list-k.result in
    let m = sym c.if-not-may_follow.ensures in (
      passed actions d k xs x x c.positions-test.true c.index-list-k.is m ∙ c.positions.invariant.0,
      passed_each actions d k xs x x c.positions-test.true c.index-list-k.is m
          c.positions.invariant.1,
    )
