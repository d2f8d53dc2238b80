use Rattle.std.proofs.Common.{◌∙◌, ◌++◌, ◌∷◌, [], ap, map}
use Rattle.sq_term.specs.Systems.{system_tree}
use Rattle.sq_system.proofs.EnvPushes.{kept_as}
use Rattle.sq_run.specs.Scripts.{statement_of, environment_of}
use Rattle.sq_run.proofs.runner.environment_of.Goals as goal

pub invariant_of-result : goal.invariant_of-result
invariant_of-result c =
    let funs = c.funs.view_is ∙ (c.in_ok-funs.ensures ∙ c.as_slice.ensures) in
    let systems =
    c.systems.view_is
    ∙ (c.in_ok-push.ensures.ok ∙ (λ i. c.new-systems.ensures i ++ c.empty.ensures i ∷ [])) in
    record {
      well_formed =
          kept_as (environment_of c.args.script.now) _ _ _ _ c.requires c.new.ensures funs
          (ap (map system_tree) systems)
          (c.in_ok-statements_of.ensures ∙ ap (map statement_of) c.as_slice-2.ensures);
    }
