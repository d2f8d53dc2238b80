use Rattle.std.proofs.Common.{subst}
use Rattle.sq_resolve.specs.Built.{IsBuilt}
use Rattle.sq_resolve.proofs.Limits.{test_passes}
use Rattle.sq_resolve.proofs.built.found.Goals as goal

pub returns-in-TooLarge : goal.returns-in-TooLarge
returns-in-TooLarge c =
    λ x y z h k l. test_passes c.args.count x y z (subst (λ b. IsBuilt b x) c.in-TooLarge.is h)
