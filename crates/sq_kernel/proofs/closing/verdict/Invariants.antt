use Rattle.std.proofs.Common.{◌≡◌, drop, reverse}
use Rattle.sq_system.specs.Environments.{env_tree}
use Rattle.sq_sequent.specs.Logic.{sequent_trees}
use Rattle.sq_kernel.specs.Verdicts.{verdict_from, verdict_of}
use Rattle.sq_kernel.proofs.closing.verdict.Given as goal

abbrev pub invariant-steps : goal.invariant-steps
invariant-steps l =
    (l.number ≡ l.step-index) × (verdict_of (env_tree l.env) l.goal l.steps
    ≡ verdict_from (env_tree l.env) l.goal l.number (drop l.step-index l.steps)
    (sequent_trees (reverse l.stack.items)))
