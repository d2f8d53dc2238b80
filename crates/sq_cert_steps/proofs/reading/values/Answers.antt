use Rattle.sq_cert_steps.specs.Lines.{value_of}
use Rattle.sq_cert_steps.specs.Reading.{of_value}
use Rattle.sq_cert_steps.proofs.Rests.{some_words, rest-turn, rest-fails, err_reads}
use Rattle.sq_cert_steps.proofs.Rests.{argument-shorter}
use Rattle.sq_cert_steps.proofs.reading.values.Goals as goal

pub returns-in_err-value : goal.returns-in_err-value
returns-in_err-value c =
    err_reads _ _ _ _ _ c.from_residual.ensures.1
    (rest-fails value_of of_value _ _ _ _ (some_words _ _ c.rest-test.true c.is_empty.ensures)
    c.rest.invariant c.in_err-value.ensures)

pub rest-smaller : goal.rest-smaller
rest-smaller c = argument-shorter of_value _ _ _ c.in_ok-value.ensures

pub rest-preserved : goal.rest-preserved
rest-preserved c =
    rest-turn value_of of_value _ _ _ _ _ _
    (some_words _ _ c.rest-test.true c.is_empty.ensures) c.in_ok-push.ensures.ok
    c.in_ok-value.ensures c.rest.invariant
