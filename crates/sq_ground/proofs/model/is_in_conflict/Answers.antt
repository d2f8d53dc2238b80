use Rattle.std.proofs.Common.{◌≡◌, ap, sym, ◌∙◌, subst, true}
use Rattle.std.specs.Prelude.{◌||◌}
use Rattle.std.specs.List.{list_any}
use Rattle.sq_term.specs.Lists.{here, there, Each}
use Rattle.sq_term.specs.Systems.{system_tree}
use Rattle.sq_term.specs.Models.{is_instance_below, are_in_conflict}
use Rattle.sq_ground.proofs.model.is_in_conflict.Goals as goal

pub are_in_conflict-requires-clause-second : goal.are_in_conflict-requires-clause-second
are_in_conflict-requires-clause-second c =
    subst (Each (λ x. is_instance_below (system_tree c.args.s.now) c.args.indices x ≡ true))
    c.in-Some.ensures.cases.0 c.instances.invariant.1 c.in-Some.j.now here

pub instances-preserved : goal.instances-preserved
instances-preserved c =
    let rest = c.in-Some.ensures.cases.0 in
    let test = are_in_conflict (system_tree c.args.s.now) c.args.i.now in (
      (ap (λ b. b || list_any test c.in-Some.later.now) c.if-are_in_conflict.ensures
          ∙ ap (list_any test) (sym rest)) ∙ c.instances.invariant.0,
      λ x i. subst
          (Each (λ y. is_instance_below (system_tree c.args.s.now) c.args.indices y ≡ true)) rest
          c.instances.invariant.1 x (there i),
    )
