use Rattle.std.proofs.Common.{◌≡◌, drop, reverse}
use Rattle.sq_sequent.specs.Logic.{sequent_trees}
use Rattle.sq_kernel.specs.Goals.{goal_trees}
use Rattle.sq_kernel.specs.Extending.{each_named}
use Rattle.sq_kernel.proofs.Loops.{behind}
use Rattle.sq_kernel.proofs.extending.name_each.Given as goal

abbrev pub invariant-loop-names : goal.invariant-loop-names
invariant-loop-names l =
    each_named l.schemas (sequent_trees (reverse l.initial.left.items)) l.fn.names
    ≡ behind (goal_trees l.goals)
    (each_named l.schemas (sequent_trees (reverse l.left.items)) (drop l.names-index l.fn.names))
