use Rattle.sq_run.proofs.Declared.{form_is_environment}
use Rattle.sq_run.proofs.answer.answer_of_run.Goals as goal

pub trouble_of-requires : goal.trouble_of-requires
trouble_of-requires c =
    form_is_environment c.args.bytes.now c.args.script c.requires.short c.requires.form
