use Rattle.sq_system.specs.Environments.{env_tree}
use Rattle.sq_kernel.specs.Goals.{goal_trees}
use Rattle.sq_kernel.proofs.Leavings.{left-all}
use Rattle.sq_kernel.proofs.proof.Proof.add.Goals as goal

pub grow-requires-clause-named : goal.grow-requires-clause-named
grow-requires-clause-named c =
    left-all (env_tree c.args.env.now) c.args.goal c.args.steps.now c.args.names.now
    (goal_trees c.args.self.now.goals) (goal_trees c.in_ok-goals.goals) c.in_ok-goals.ensures
