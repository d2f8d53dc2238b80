use Rattle.std.proofs.Common.{◌∙◌}
use Rattle.std.proofs.lemmas.Result.{IfOk-weaker}
use Rattle.sq_run.proofs.Meaning.{meant_for}
use Rattle.sq_run.proofs.run.file_answer.Goals as goal

pub returns-in-Ok-clause-meant : goal.returns-in-Ok-clause-meant
returns-in-Ok-clause-meant g c =
    IfOk-weaker c.bytes_answer.result _ _
    (λ a h. meant_for _ _ _ _ c.deref.result.now a h c.in-Ok.ensures.present
    (λ file is. c.deref.ensures.value ∙ c.in-Ok.ensures.bytes file is)) c.bytes_answer.ensures
