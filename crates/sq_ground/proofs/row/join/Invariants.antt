use Rattle.std.proofs.Common.{map, length}
use Rattle.sq_term.specs.Builtins.{builtin_kind}
use Rattle.sq_ground.specs.Calls.Rows.{built_ground, joined}
use Rattle.sq_ground.proofs.Joins.{JoinSoFar}
use Rattle.sq_ground.proofs.row.join.Given as goal

abbrev pub invariant-loop-part : goal.invariant-loop-part
invariant-loop-part l =
    JoinSoFar (builtin_kind l.connective) l.room l.parts l.all
    (joined (builtin_kind l.connective) (builtin_kind l.fn.unit) (map built_ground l.fn.row.parts))

abbrev pub decreases-loop-part : goal.decreases-loop-part
decreases-loop-part l = length l.parts
