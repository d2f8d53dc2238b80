use Rattle.std.proofs.Common.{◌∙◌, sym}
use Rattle.std.proofs.lemmas.Result.{IfOk-weaker}
use Rattle.sq_run.proofs.Sentences.{stated_words}
use Rattle.sq_run.proofs.script.Script.state.Goals as goal

pub returns-then-is_name : goal.returns-then-is_name
returns-then-is_name c =
    IfOk-weaker c.state_formula.result _ _ (λ next is. is
    ∙ stated_words c.args.self c.args.words.now c.name-item.result c.colon-item.result
    c.in-len2-up.len_at_least c.name-item.is c.colon-item.is
    (sym c.reads.ensures ∙ c.if-reads.true) (sym c.is_outside.ensures ∙ c.if-is_outside.true)
    (sym c.is_name.ensures ∙ c.if-is_name.true)) c.state_formula.ensures
