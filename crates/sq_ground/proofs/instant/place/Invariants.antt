use Rattle.std.proofs.Common.{◌≡◌, suc, drop}
use Rattle.sq_term.specs.Models.{place_from}
use Rattle.sq_ground.proofs.instant.place.Given as goal

abbrev pub invariant-loop-k : goal.invariant-loop-k
invariant-loop-k l = place_from (suc l.k) (drop l.k l.list) l.n l.is ≡ place_from 1 l.list l.n l.is
