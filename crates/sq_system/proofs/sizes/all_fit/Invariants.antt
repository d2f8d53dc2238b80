use Rattle.std.proofs.Common.{◌≡◌, map, drop}
use Rattle.sq_system.specs.Sequents.{sequent_tree}
use Rattle.sq_system.specs.Sizes.{all_fit}
use Rattle.sq_system.proofs.sizes.all_fit.Given as goal

abbrev pub invariant-loop-premise : goal.invariant-loop-premise
invariant-loop-premise l =
    all_fit (map sequent_tree (drop l.premise-index l.premises))
    ≡ all_fit (map sequent_tree l.premises)
