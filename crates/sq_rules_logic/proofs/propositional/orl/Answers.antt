use Rattle.sq_system.specs.Sequents.{sequent_tree}
use Rattle.sq_sequent.proofs.RowShapes.{gives_one, orl-there, orl-else}
use Rattle.sq_rules_logic.proofs.propositional.orl.Goals as goal

pub returns-in_ok-asking_copy-in-Or : goal.returns-in_ok-asking_copy-in-Or
returns-in_ok-asking_copy-in-Or c =
    gives_one c.one_premise.result _ _ _
    (orl-there (sequent_tree c.args.s.now) _ _ _ _ c.goal_of.ensures c.in-Or.ensures)
    c.in_ok-asking_copy-in-Or.ensures c.one_premise.ensures

pub returns-in_default : goal.returns-in_default
returns-in_default c =
    λ n. orl-else (sequent_tree c.args.s.now) c.shape_of.result _ _ c.goal_of.ensures
    c.shape_of.ensures
    c.in_default.not-Or
