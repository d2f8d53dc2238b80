use Rattle.std.proofs.Common.{sym, ◌∙◌}
use Rattle.sq_pool.proofs.Different.{one_id_per_tree, different_count-trees}
use Rattle.sq_pool.proofs.pool.Pool.len.Goals as goal

pub returns-clause-trees : goal.returns-clause-trees
returns-clause-trees c =
    let count = different_count-trees c.self.inside.nodes.keys c.self.invariant in
    rw (← c.self.view_is) (c.len.ensures.len ∙ sym count)

pub returns-clause-one_id : goal.returns-clause-one_id
returns-clause-one_id c =
    rw (← c.self.view_is) (one_id_per_tree c.self.inside.nodes.keys c.self.invariant)
