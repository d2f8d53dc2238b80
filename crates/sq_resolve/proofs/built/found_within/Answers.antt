use Rattle.std.proofs.Common.{subst}
use Rattle.sq_resolve.specs.Built.{IsBuilt}
use Rattle.sq_resolve.proofs.Limits.{then_passes, other_passes}
use Rattle.sq_resolve.proofs.built.found_within.Goals as goal

pub returns-in-TooLarge : goal.returns-in-TooLarge
returns-in-TooLarge c =
    λ x y z h k l. then_passes c.args.count x y z (subst (λ b. IsBuilt b y) c.in-TooLarge.is k)

pub returns-in-TooLarge-other : goal.returns-in-TooLarge-other
returns-in-TooLarge-other c =
    λ x y z h k l. other_passes c.args.count x y z
    (subst (λ b. IsBuilt b z) c.in-TooLarge-other.is l)
