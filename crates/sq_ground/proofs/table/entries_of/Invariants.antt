use Rattle.std.proofs.Common.{drop}
use Rattle.sq_term.specs.Systems.{system_tree}
use Rattle.sq_ground.proofs.Tables.{PassSoFar}
use Rattle.sq_ground.proofs.table.entries_of.Given as goal

abbrev pub invariant-loop-i : goal.invariant-loop-i
invariant-loop-i l =
    PassSoFar l.room (system_tree l.s) l.m l.left l.entries (drop l.i-index l.i-items)
