use Rattle.std.proofs.Common.{◌+◌, ◌*◌, ◌↔◌, ◌≤◌, drop}
use Rattle.sq_ast.specs.ProcTree.{process_trees}
use Rattle.sq_ast.specs.ProcGrammar.{process_heights}
use Rattle.sq_parse_process.proofs.depth.+fits.Given as goal

abbrev pub decreases-process_fits : goal.decreases-process_fits
decreases-process_fits l = 2 * l.room

abbrev pub decreases-both_fit : goal.decreases-both_fit
decreases-both_fit l = 2 * l.room + 1

abbrev pub decreases-branches_fit : goal.decreases-branches_fit
decreases-branches_fit l = 2 * l.room + 1

abbrev pub decreases-all_fit : goal.decreases-all_fit
decreases-all_fit l = 2 * l.room + 1

abbrev pub invariant-all_fit-loop-process : goal.invariant-all_fit-loop-process
invariant-all_fit-loop-process l =
    (process_heights (process_trees (drop l.process-index l.processes)) ≤ l.room) ↔
    (process_heights (process_trees l.processes) ≤ l.room)
