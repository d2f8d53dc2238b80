use Rattle.std.proofs.Common.{map, length}
use Rattle.sq_term.specs.Ground.{ground}
use Rattle.sq_ground.specs.Calls.Rows.{built_ground, nested}
use Rattle.sq_ground.proofs.Joins.{NestSoFar}
use Rattle.sq_ground.proofs.row.nest.Given as goal

abbrev pub invariant-loop-test : goal.invariant-loop-test
invariant-loop-test l =
    NestSoFar l.room l.tests l.founds l.all
    (nested (map built_ground l.fn.tests.parts) (map built_ground l.fn.founds.parts)
    (ground l.fn.other.term))

abbrev pub decreases-loop-test : goal.decreases-loop-test
decreases-loop-test l = length l.tests
