use Rattle.std.proofs.Common.{subst, inr}
use Rattle.sq_ground.specs.Calls.Builds.{Builds}
use Rattle.sq_ground.proofs.Kept.{oversized_passes}
use Rattle.sq_ground.proofs.keeping.keep.Goals as goal

pub returns-in-TooLarge : goal.returns-in-TooLarge
returns-in-TooLarge c room g b =
    inr (oversized_passes room, subst (Builds room g) c.in-Err.is b c.in-TooLarge.is)
