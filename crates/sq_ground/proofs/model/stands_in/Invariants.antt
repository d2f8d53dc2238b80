use Rattle.std.proofs.Common.{◌≡◌, length}
use Rattle.sq_term.specs.Models.{stands_in}
use Rattle.sq_ground.proofs.model.stands_in.Given as goal

abbrev pub invariant-instances : goal.invariant-instances
invariant-instances l = stands_in l.rest l.n l.idx ≡ stands_in l.list l.n l.idx

abbrev pub decreases-instances : goal.decreases-instances
decreases-instances l = length l.rest
