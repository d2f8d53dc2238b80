use Rattle.std.proofs.Common.{◌≡◌, drop, map}
use Rattle.std.specs.List.{list_all}
use Rattle.sq_system.specs.Sequents.{sequent_tree}
use Rattle.sq_run.specs.Running.{is_small}
use Rattle.sq_run.proofs.goal.are_small.Given as goal

abbrev pub invariant-loop-premise : goal.invariant-loop-premise
invariant-loop-premise l =
    list_all is_small (map sequent_tree (drop l.premise-index l.premises))
    ≡ list_all is_small (map sequent_tree l.premises)
