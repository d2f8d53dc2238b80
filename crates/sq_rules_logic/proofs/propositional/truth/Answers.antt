use Rattle.std.proofs.Common.{Ok, sym, ap, ◌∙◌}
use Rattle.sq_sequent.specs.Logic.{sequent_trees, within_limits, judged}
use Rattle.sq_sequent.proofs.RowShapes.{true-there, true-else}
use Rattle.sq_rules_logic.proofs.propositional.truth.Goals as goal

pub returns-in-True : goal.returns-in-True
unfolding within_limits
returns-in-True c =
    ap judged (true-there _ _ c.goal_of.ensures c.in-True.ensures)
    ∙ ap (λ l. Ok (sequent_trees l)) (sym c.new.ensures)

pub returns-in_default : goal.returns-in_default
returns-in_default c =
    λ n. true-else c.shape_of.result _ _ c.goal_of.ensures c.shape_of.ensures c.in_default.not-True
