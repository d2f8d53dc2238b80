use Rattle.std.proofs.Common.{bytes_eq, find, sym, ap, ◌∙◌}
use Rattle.sq_cert_steps.specs.Names.{name_text}
use Rattle.sq_cert_steps.proofs.Beginnings.{name_by_letter, name_of_nothing}
use Rattle.sq_cert_steps.proofs.name.StepName.of.Goals as goal

pub returns-in-Some : goal.returns-in-Some
returns-in-Some c =
    c.written_so.ensures
    ∙ ap (find (λ n. bytes_eq (name_text n) c.args.text.now)) c.beginning.ensures
    ∙ sym (name_by_letter _ _ _ c.in-Some.ensures.cases.0)

pub returns-in-None : goal.returns-in-None
returns-in-None c = sym (name_of_nothing _ c.in-None.ensures.cases)
