use Rattle.std.proofs.Common.{sym, subst}
use Rattle.sq_base.specs.Gives.{Gives}
use Rattle.sq_system.specs.Sequents.{sequent_tree}
use Rattle.sq_system.specs.declared.fault.RuleFault.TheVariants as fault
use Rattle.sq_sequent.specs.Logic.{sequent_trees, judged}
use Rattle.sq_sequent.proofs.RowShapes.{alli-there, alli-else}
use Rattle.sq_rules_logic.proofs.quantifiers.alli.Goals as goal

pub returns-in-Forall : goal.returns-in-Forall
returns-in-Forall c =
    subst (λ r. Gives fault.NoMemory sequent_trees c.asking_new.result (judged r))
    (sym (alli-there (sequent_tree c.args.s.now) _ _ _ _ c.goal_of.ensures c.in-Forall.ensures))
    c.asking_new.ensures

pub returns-in_default : goal.returns-in_default
returns-in_default c =
    λ n. alli-else (sequent_tree c.args.s.now) c.shape_of.result _ _ c.goal_of.ensures
    c.shape_of.ensures
    c.in_default.not-Forall
