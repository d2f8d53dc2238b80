use Rattle.sq_kernel.proofs.LaterRows.{closes_goal_later}
use Rattle.sq_kernel.proofs.laws.closing_steps_stay_closing.Goals as goal

pub returns : goal.returns
returns c =
    λ earlier later g steps k there e. closes_goal_later earlier later k g there steps e
