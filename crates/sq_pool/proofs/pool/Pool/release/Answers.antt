use Rattle.sq_pool.proofs.Trees.{KeepsBelow-take}
use Rattle.sq_pool.proofs.pool.Pool.release.Goals as goal

pub returns-clause-ids : goal.returns-clause-ids
returns-clause-ids c =
    rw (← c.self.view_is, ← c.mark.view_is, c.truncate.ensures.keys)
    (KeepsBelow-take c.mark.inside.len c.self.inside.nodes.keys)
