use Rattle.std.proofs.Common.{suc, ◌∙◌, sym, ap, drop, reverse, Err}
use Rattle.sq_system.specs.Environments.{env_tree}
use Rattle.sq_ground.proofs.Refusals.{drop_next}
use Rattle.sq_sequent.specs.Logic.{sequent_trees}
use Rattle.sq_kernel.proofs.Loops.{stopped}
use Rattle.sq_kernel.proofs.extending.leave.Goals as goal

pub returns-in-Err : goal.returns-in-Err
returns-in-Err c =
    λ m. stopped (env_tree c.args.env.now) c.args.goal _ c.loop-step.number c.step-item.result
    (drop c.loop-step.step-index c.args.steps.now)
    (drop (suc c.loop-step.step-index) c.args.steps.now)
    (sequent_trees (reverse c.loop-step.stack.items)) c.in-Err.reason c.loop-step.invariant.1
    (drop_next c.args.steps.now c.loop-step.step-index c.step-item.result _ c.loop-step-test.true
    c.step-item.is)
    c.in-Err.ensures (λ t. m (c.at.ensures ∙ t))
    ∙ ap Err (sym c.at.ensures)
