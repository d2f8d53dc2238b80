use Rattle.std.proofs.Common.{Ok, sym, ap, ◌∙◌}
use Rattle.sq_sequent.specs.Logic.{sequent_trees, within_limits, judged}
use Rattle.sq_sequent.proofs.RowShapes.{absurd-there, absurd-else}
use Rattle.sq_rules_logic.proofs.propositional.absurd.Goals as goal

pub returns-in-False : goal.returns-in-False
unfolding within_limits
returns-in-False c =
    ap judged (absurd-there _ _ c.hyp_of.ensures c.in-False.ensures)
    ∙ ap (λ l. Ok (sequent_trees l)) (sym c.new.ensures)

pub returns-in_default : goal.returns-in_default
returns-in_default c =
    λ n. absurd-else c.shape_of.result _ _ c.hyp_of.ensures c.shape_of.ensures
    c.in_default.not-False
