use Rattle.std.proofs.Common.{◌≡◌, ◌<◌, ◌++◌, ◌∷◌, [], length, sym, ap, ◌∙◌, subst, arith}
use Rattle.std.specs.Prelude.{◌||◌, List}
use Rattle.sq_term.specs.declared.action.Action.{Action}
use Rattle.sq_term.specs.Systems.{action_tree, system_tree}
use Rattle.sq_system.specs.Facts.{IsAction, KeepsFacts, some_diff}
use Rattle.sq_system.proofs.SystemLaws.{KeepsFacts-push, has_diff-push}
use Rattle.sq_system.proofs.system.System.push.Goals as goal

pub invariant_of-self : goal.invariant_of-self
invariant_of-self c =
    let xs = c.self.inside.actions in
    let a = c.args.a in
    let one =
    subst
    (λ (ys : List Action). IsAction (system_tree (ys ++ a ∷ [])) (length ys) (action_tree a))
    (sym c.self.view_is) c.requires.action in
    let pushed : c.push.new.self ≡ xs ++ a ∷ [] = c.in-Ok.ensures.ok in
    let room : length xs < 1024 = omega arith in
    let differs = has_diff-push c.self.inside.has_diff xs a c.self.invariant.1 in (
      subst KeepsFacts (sym pushed)
          (KeepsFacts-push xs a c.self.invariant.0 room one c.requires.shallow),
      ap (λ b. c.self.inside.has_diff || b) c.action_holds_diff-differs.ensures
          ∙ (differs ∙ ap (λ ys. some_diff (system_tree ys)) (sym pushed)),
    )
