use Rattle.sq_system.specs.Sequents.{sequent_tree}
use Rattle.sq_sequent.proofs.RowShapes.{ore-else}
use Rattle.sq_rules_logic.proofs.propositional.ore.Goals as goal

pub returns-in_default : goal.returns-in_default
returns-in_default c =
    λ n. ore-else (sequent_tree c.args.s.now) c.shape_of.result _ _ c.hyp_of.ensures
    c.shape_of.ensures c.in_default.not-Or
