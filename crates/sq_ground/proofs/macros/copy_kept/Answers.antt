use Rattle.std.proofs.Common.{sym, subst}
use Rattle.sq_ground.specs.Calls.Builds.{Passes}
use Rattle.sq_ground.specs.Calls.Readings.{kept}
use Rattle.sq_ground.proofs.Kept.{oversized_passes}
use Rattle.sq_ground.proofs.macros.copy_kept.Goals as goal

pub returns-in-None : goal.returns-in-None
returns-in-None c e =
    subst (λ t. Passes c.args.room (kept t)) (sym c.in-None.is) (oversized_passes c.args.room)
