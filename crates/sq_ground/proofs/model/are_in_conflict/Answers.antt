use Rattle.std.proofs.Common.{ap, ◌∙◌, length}
use Rattle.sq_term.specs.Systems.{in_conflict}
use Rattle.sq_ground.proofs.Systems.{instance-parts, path_of-action_at}
use Rattle.sq_ground.proofs.model.are_in_conflict.Goals as goal

pub conflict-requires-clause-first : goal.conflict-requires-clause-first
conflict-requires-clause-first c =
    (instance-parts c.args.s.now c.args.indices c.args.i.now c.requires.first).0

pub conflict-requires-clause-second : goal.conflict-requires-clause-second
conflict-requires-clause-second c =
    (instance-parts c.args.s.now c.args.indices c.args.j.now c.requires.second).0

pub conflict-requires-clause-first_indices : goal.conflict-requires-clause-first_indices
conflict-requires-clause-first_indices c =
    ap length c.as_slice.ensures
    ∙ (instance-parts c.args.s.now c.args.indices c.args.i.now c.requires.first).1

pub conflict-requires-clause-second_indices : goal.conflict-requires-clause-second_indices
conflict-requires-clause-second_indices c =
    ap length c.as_slice-2.ensures
    ∙ (instance-parts c.args.s.now c.args.indices c.args.j.now c.requires.second).1

pub returns : goal.returns
returns c =
    c.conflict.ensures.conflict
    ∙ (λ k. in_conflict (path_of-action_at c.args.s.now c.args.i.now.act k) (c.as_slice.ensures k)
    (path_of-action_at c.args.s.now c.args.j.now.act k) (c.as_slice-2.ensures k))
