use Rattle.sq_cert_steps.specs.Lines.{number}
use Rattle.sq_cert_steps.specs.Reading.{of_number}
use Rattle.sq_cert_steps.proofs.Rests.{some_words, rest-turn, rest-fails, err_reads}
use Rattle.sq_cert_steps.proofs.reading.numbers.Goals as goal

pub returns-in_err-number_in : goal.returns-in_err-number_in
returns-in_err-number_in c =
    err_reads _ _ _ _ _ c.from_residual.ensures.1
    (rest-fails number of_number _ _ _ _ (some_words _ _ c.rest-test.true c.is_empty.ensures)
    c.rest.invariant c.in_err-number_in.ensures)

pub rest-preserved : goal.rest-preserved
rest-preserved c =
    rest-turn number of_number _ _ _ _ _ _
    (some_words _ _ c.rest-test.true c.is_empty.ensures) c.in_ok-push.ensures.ok
    c.in_ok-number_in.ensures c.rest.invariant
