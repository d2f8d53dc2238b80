use Rattle.std.proofs.Common.{subst}
use Rattle.sq_resolve.specs.Built.{IsBuilt}
use Rattle.sq_resolve.proofs.Limits.{left_passes, right_passes}
use Rattle.sq_resolve.proofs.built.difference.Goals as goal

pub returns-in-TooLarge : goal.returns-in-TooLarge
returns-in-TooLarge c = λ x y h k. left_passes x y (subst (λ b. IsBuilt b x) c.in-TooLarge.is h)

pub returns-in-TooLarge-b : goal.returns-in-TooLarge-b
returns-in-TooLarge-b c =
    λ x y h k. right_passes x y (subst (λ b. IsBuilt b y) c.in-TooLarge-b.is k)
