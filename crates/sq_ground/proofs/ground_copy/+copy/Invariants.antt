use Rattle.std.proofs.Common.{drop}
use Rattle.sq_term.specs.Ground.{grounds}
use Rattle.sq_ground.proofs.Grounds.{RowSoFar}
use Rattle.sq_ground.proofs.ground_copy.+copy.Given as goal

abbrev pub invariant-copy_grounds-loop-t : goal.invariant-copy_grounds-loop-t
invariant-copy_grounds-loop-t l =
    RowSoFar l.out l.nodes l.deepest l.room (grounds (drop l.t-index l.terms)) (grounds l.terms)
