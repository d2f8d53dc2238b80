use Rattle.std.proofs.Common.{◌≡◌, ◌<◌, List, ℕ, ◌++◌, codes, length, ap, sym, ◌∙◌}
use Rattle.std.proofs.lemmas.Bool.{false≢true}
use Rattle.std.proofs.lemmas.Result.{IfOk-weaker}
use Rattle.sq_system.specs.declared.sequent.OpenGoal.{OpenGoal}
use Rattle.sq_print.specs.GoalTexts.{newline, goals_text}
use Rattle.sq_print.specs.WrittenGoals.{wrote_goals}
use Rattle.sq_print.proofs.Blocks.{no_goals, some_goals, all_goals}
use Rattle.sq_print.proofs.goals.print_goals.Goals as goal

pub returns-then-is_empty : goal.returns-then-is_empty
returns-then-is_empty c =
    let none =
    no_goals c.args.system c.args.table.now c.args.goals.now
    (c.is_empty.ensures.0 c.if-is_empty.true) in
    IfOk-weaker c.from_str.result (λ (t : List ℕ). t ≡ codes "no open goal" ++ newline)
    (λ (t : List ℕ). t ≡ goals_text c.args.system c.args.table.now c.args.goals.now)
    (λ t e. e ∙ none) c.from_str.ensures

pub returns : goal.returns
returns c =
    let system = c.args.system in
    let table = c.args.table.now in
    let goals = c.args.goals.now in
    let some : 0 < length goals =
    some_goals goals (λ h. false≢true (sym c.if-is_empty.false ∙ c.is_empty.ensures.1 h)) in
    c.in_ok-write_goals.ensures
    ∙ (ap (λ (g : List OpenGoal). wrote_goals system table 0 (length g) c.new-out.result g)
    c.as_slice.ensures
    ∙ (ap (λ r. wrote_goals system table 0 (length goals) r goals) c.new-out.ensures
    ∙ all_goals system table goals some))
