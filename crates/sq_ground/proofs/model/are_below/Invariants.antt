use Rattle.std.proofs.Common.{◌≡◌, length}
use Rattle.sq_term.specs.Models.{are_below}
use Rattle.sq_ground.proofs.model.are_below.Given as goal

abbrev pub invariant-numbers : goal.invariant-numbers
invariant-numbers l = are_below l.indices l.rest ≡ are_below l.indices l.idx

abbrev pub decreases-numbers : goal.decreases-numbers
decreases-numbers l = length l.rest
