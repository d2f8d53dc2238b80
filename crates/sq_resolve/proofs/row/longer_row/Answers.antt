use Rattle.std.proofs.Common.{subst}
use Rattle.sq_resolve.specs.Built.{IsBuilt, IsRow}
use Rattle.sq_resolve.proofs.Limits.{first_passes, last_passes}
use Rattle.sq_resolve.proofs.row.longer_row.Goals as goal

pub returns-in-TooLarge : goal.returns-in-TooLarge
returns-in-TooLarge c = λ ts x h k. first_passes ts x (subst (λ r. IsRow r ts) c.in-TooLarge.is h)

pub returns-in-TooLarge-last : goal.returns-in-TooLarge-last
returns-in-TooLarge-last c =
    λ ts x h k. last_passes ts x (subst (λ b. IsBuilt b x) c.in-TooLarge-last.is k)
