use Rattle.std.proofs.Common.{bytes_eq, find, sym, ap, ◌∙◌}
use Rattle.sq_cert_words.specs.Words.{plain_text}
use Rattle.sq_cert_words.proofs.Beginnings.{plain_by_letter, plain_of_nothing}
use Rattle.sq_cert_words.proofs.word.Plain.of.Goals as goal

pub returns-in-Some : goal.returns-in-Some
returns-in-Some c =
    c.written_so.ensures
    ∙ ap (find (λ p. bytes_eq (plain_text p) c.args.text.now)) c.beginning.ensures
    ∙ sym (plain_by_letter _ _ _ c.in-Some.ensures.cases.0)

pub returns-in-None : goal.returns-in-None
returns-in-None c = sym (plain_of_nothing _ c.in-None.ensures.cases)
