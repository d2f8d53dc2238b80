use Rattle.sq_system.specs.Sequents.{sequent_tree}
use Rattle.sq_sequent.proofs.RowShapes.{ande-else}
use Rattle.sq_rules_logic.proofs.propositional.ande.Goals as goal

pub returns-in_default : goal.returns-in_default
returns-in_default c =
    λ n. ande-else (sequent_tree c.args.s.now) c.shape_of.result _ _ c.hyp_of.ensures
    c.shape_of.ensures c.in_default.not-And
