use Rattle.sq_system.specs.Environments.{env_tree}
use Rattle.sq_kernel.specs.Proofs.{proof_tree}
use Rattle.sq_kernel.proofs.Leavings.{keeps-standing}
use Rattle.sq_kernel.proofs.proof.Proof.extend.Goals as goal

pub returns-clause-stands : goal.returns-clause-stands
returns-clause-stands c =
    keeps-standing (env_tree c.args.env.now) (proof_tree c.args.self.now)
    (proof_tree c.add.new.self) c.args.steps.now c.args.names.now c.add.result
    c.add.ensures.exact
