use Rattle.std.proofs.Common.{◌∙◌}
use Rattle.std.specs.List.{list_any}
use Rattle.sq_term.specs.Systems.{is_separated, choices_from}
use Rattle.sq_system.proofs.Choices.{separated_choices}
use Rattle.sq_system.proofs.system.System.conflict.Goals as goal

pub returns-clause-choices : goal.returns-clause-choices
returns-clause-choices c =
    let l = c.shape.ensures.path in
    let r = c.shape-2.ensures.path in
    c.in_conflict.ensures
    ∙ (separated_choices c.shape.result.1.now c.shape-2.result.1.now c.args.is.now c.args.js.now
    ∙ (λ i. list_any (is_separated c.args.is.now c.args.js.now) (choices_from 0 (l i) (r i))))
