-- Where a step is taken.
use Rattle.std.specs.Prelude.{ℕ}
use Rattle.sq_system.specs.Sequents.{SequentTree}
use Rattle.sq_system.specs.Statements.{EnvTree}

-- the environment, the number of the goal whose proof it is, and the sequent that the step replaces
pub record Site : Type 0 where
  pub env : EnvTree
  pub goal : ℕ
  pub sequent : SequentTree
