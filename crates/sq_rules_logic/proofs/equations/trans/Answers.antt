use Rattle.sq_sequent.proofs.RowShapes.{trans-else}
use Rattle.sq_sequent.specs.Sites.{site_tree}
use Rattle.sq_rules_logic.proofs.equations.trans.Goals as goal

pub returns-in_default : goal.returns-in_default
returns-in_default c =
    λ n. trans-else (site_tree c.args.at.now).sequent _ c.shape_of.result _ _
    c.local_goal_of.ensures c.shape_of.ensures c.in_default.not-Equal
