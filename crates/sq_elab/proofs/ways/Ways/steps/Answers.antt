use Rattle.std.proofs.Common.{◌≡◌, ◌≤◌, ◌<◌, ◌-◌, ◌++◌, List, length, reverse, ap, sym, ◌∙◌}
use Rattle.std.proofs.Common.{arith, Some}
use Rattle.std.proofs.lemmas.Option.{slice_get-get_or}
use Rattle.std.specs.Prelude.{slice_get}
use Rattle.sq_elab.specs.declared.step.Step.{Step as Passed}
use Rattle.sq_elab.specs.Steps.{steps_at}
use Rattle.sq_elab.proofs.StepLaws.{read_on, read_all}
use Rattle.sq_elab.proofs.ways.Ways.steps.Goals as goal

pub links-preserved : goal.links-preserved
links-preserved c =
    let links = c.args.self.now.links.items in
    let l = c.index.result.now in
    let some : 0 < c.links.at = c.links-test.true in
    let inside : c.links.at - 1 < length links = omega (arith, some, c.links.invariant.0) in
    let there : slice_get links (c.links.at - 1) ≡ Some l =
    slice_get-get_or links (c.links.at - 1) l inside ∙ sym (ap Some c.index.ensures) in
    let low : l.0 ≤ c.links.at - 1 = c.args.self.now.behind (c.links.at - 1) l there in (
      omega (arith, low, inside),
      read_on links c.args.number c.links.at c.links.steps.items l c.args.self.now.behind some there
          c.links.invariant.1
          ∙ ap (λ (x : List Passed). steps_at links l.0 ++ reverse x)
          (sym c.in_ok-push.ensures.items),
    )

pub returns : goal.returns
returns c =
    c.reverse.ensures.items
    ∙ read_all c.args.self.now.links.items c.args.number c.links.at c.links.steps.items
    c.links-test.false c.links.invariant.1
