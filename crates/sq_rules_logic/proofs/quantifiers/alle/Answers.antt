use Rattle.std.proofs.Common.{sym, ap, subst, ◌∙◌}
use Rattle.std.specs.Prelude.{option_map}
use Rattle.sq_base.specs.Gives.{Gives}
use Rattle.sq_term.specs.Arguments.{arg_tree}
use Rattle.sq_system.specs.declared.fault.RuleFault.TheVariants as fault
use Rattle.sq_sequent.specs.Logic.{sequent_trees, judged}
use Rattle.sq_sequent.specs.Sites.{site_tree}
use Rattle.sq_sequent.proofs.RowShapes.{alle-there, alle-else}
use Rattle.sq_rules_logic.proofs.quantifiers.alle.Goals as goal

pub returns-in-Some : goal.returns-in-Some
returns-in-Some c =
    subst (λ r. Gives fault.NoMemory sequent_trees c.assuming_at.result (judged r))
    (sym (alle-there (site_tree c.args.at.now) c.args.witness.now _ _ _ _ _ c.hyp_of.ensures
    c.in-Forall.ensures (sym c.in_ok-value-in-Forall.ensures ∙ ap
    (option_map arg_tree) c.in-Some.is))) c.assuming_at.ensures

pub returns-in-None : goal.returns-in-None
returns-in-None c =
    λ n. ap judged (alle-there (site_tree c.args.at.now) c.args.witness.now _ _ _ _ _
    c.hyp_of.ensures
    c.in-Forall.ensures (sym c.in_ok-value-in-Forall.ensures ∙ ap
    (option_map arg_tree) c.in-None.is))

pub returns-in_default : goal.returns-in_default
returns-in_default c =
    λ n. alle-else (site_tree c.args.at.now) c.args.witness.now c.shape_of.result _ _
    c.hyp_of.ensures c.shape_of.ensures
    c.in_default.not-Forall
