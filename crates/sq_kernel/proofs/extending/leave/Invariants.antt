use Rattle.std.proofs.Common.{◌≡◌, [], ◌∷◌, drop, reverse}
use Rattle.sq_system.specs.Environments.{env_tree}
use Rattle.sq_system.specs.Sequents.{sequent_tree}
use Rattle.sq_sequent.specs.Logic.{sequent_trees}
use Rattle.sq_kernel.specs.Extending.{left_from}
use Rattle.sq_kernel.proofs.extending.leave.Given as goal

abbrev pub invariant-loop-step : goal.invariant-loop-step
invariant-loop-step l =
    (l.number ≡ l.step-index)
    × (left_from (env_tree l.env) l.goal 0 l.steps (sequent_tree l.first ∷ [])
    ≡ left_from (env_tree l.env) l.goal l.number (drop l.step-index l.steps)
    (sequent_trees (reverse l.stack.items)))
