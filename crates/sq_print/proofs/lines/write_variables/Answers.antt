use Rattle.std.proofs.Common.{◌++◌, [], ap, sym, ◌∙◌}
use Rattle.std.proofs.lemmas.Bool.{false≢true}
use Rattle.sq_print.specs.GoalTexts.{newline}
use Rattle.sq_print.specs.WrittenGoals.{wrote_sorts}
use Rattle.sq_print.proofs.Blocks.{no_variables, some_variables}
use Rattle.sq_print.proofs.lines.write_variables.Goals as goal

pub returns-then-is_empty : goal.returns-then-is_empty
returns-then-is_empty c =
    no_variables c.args.names.now c.args.out.now c.args.sorts.now
    (c.is_empty.ensures.0 c.if-is_empty.true)

pub returns : goal.returns
returns c =
    let names = c.args.names.now in
    let out = c.args.out.now in
    let sorts = c.args.sorts.now in
    let written =
    c.in_ok-write_sorts.ensures ∙ ap (wrote_sorts names 0 [] out) c.as_slice.ensures in
    c.in_ok-push_str.ensures.ok
    ∙ (ap (λ r. r ++ newline) written
    ∙ some_variables names out sorts
    (λ h. false≢true (sym c.if-is_empty.false ∙ c.is_empty.ensures.1 h)))
