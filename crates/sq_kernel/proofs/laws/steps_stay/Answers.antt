use Rattle.sq_kernel.proofs.LaterRows.{leaves_later}
use Rattle.sq_kernel.proofs.laws.steps_stay.Goals as goal

pub returns : goal.returns
returns c =
    λ earlier later g steps stack left k there e.
    leaves_later earlier later k g there steps stack left e
