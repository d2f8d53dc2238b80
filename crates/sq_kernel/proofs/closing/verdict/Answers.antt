use Rattle.std.proofs.Common.{suc, ◌∙◌, sym, drop, reverse}
use Rattle.sq_system.specs.Environments.{env_tree}
use Rattle.sq_ground.proofs.Refusals.{drop_next}
use Rattle.sq_sequent.specs.Logic.{sequent_trees}
use Rattle.sq_kernel.specs.Verdicts.{verdict_of}
use Rattle.sq_kernel.proofs.Verdicts.{refused}
use Rattle.sq_kernel.proofs.closing.verdict.Goals as goal

pub returns-in-Some : goal.returns-in-Some
returns-in-Some c =
    refused (env_tree c.args.env.now) c.args.goal
    (verdict_of (env_tree c.args.env.now) c.args.goal c.args.steps.now) c.steps.number
    c.step-item.result
    (drop c.steps.step-index c.args.steps.now) (drop (suc c.steps.step-index) c.args.steps.now)
    (sequent_trees (reverse c.steps.stack.items)) c.in-Err.fault
    c.in-Some.kind c.steps.invariant.1
    (drop_next c.args.steps.now c.steps.step-index c.step-item.result _ c.steps-test.true
    c.step-item.is)
    c.in-Err.ensures (sym c.kind.ensures ∙ c.in-Some.is)
