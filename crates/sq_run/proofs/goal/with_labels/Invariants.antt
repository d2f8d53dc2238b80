use Rattle.std.proofs.Common.{◌≡◌, ◌++◌, drop, map}
use Rattle.sq_system.specs.Sequents.{sequent_tree}
use Rattle.sq_run.specs.Running.{goal_tree, with_labels}
use Rattle.sq_run.proofs.goal.with_labels.Given as goal

abbrev pub invariant-loop-premise : goal.invariant-loop-premise
invariant-loop-premise l =
    map goal_tree l.goals ++ with_labels (l.labels ++ l.more)
    (map sequent_tree (drop l.premise-index l.premises))
    ≡ with_labels (l.labels ++ l.more) (map sequent_tree l.premises)
