use Rattle.std.proofs.Common.{sym, subst}
use Rattle.sq_base.specs.Gives.{Gives}
use Rattle.sq_system.specs.Sequents.{sequent_tree}
use Rattle.sq_system.specs.declared.fault.RuleFault.TheVariants as fault
use Rattle.sq_sequent.specs.Logic.{sequent_trees, judged}
use Rattle.sq_sequent.proofs.RowShapes.{exe-there, exe-else}
use Rattle.sq_rules_logic.proofs.quantifiers.exe.Goals as goal

pub returns-in-Exists : goal.returns-in-Exists
returns-in-Exists c =
    subst (λ r. Gives fault.NoMemory sequent_trees c.assuming_new.result (judged r))
    (sym (exe-there (sequent_tree c.args.s.now) _ _ _ _ c.hyp_of.ensures c.in-Exists.ensures))
    c.assuming_new.ensures

pub returns-in_default : goal.returns-in_default
returns-in_default c =
    λ n. exe-else (sequent_tree c.args.s.now) c.shape_of.result _ _ c.hyp_of.ensures
    c.shape_of.ensures
    c.in_default.not-Exists
