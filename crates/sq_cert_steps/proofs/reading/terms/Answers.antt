use Rattle.sq_cert_steps.specs.Lines.{term_of}
use Rattle.sq_cert_words.specs.Reads.{left}
use Rattle.sq_cert_steps.specs.Reading.{of_term}
use Rattle.sq_cert_steps.proofs.Rests.{some_words, rest-turn, rest-fails, err_reads}
use Rattle.sq_cert_steps.proofs.Rests.{argument-shorter}
use Rattle.sq_cert_steps.proofs.Rests.{term_argument, term_fails}
use Rattle.sq_cert_steps.proofs.reading.terms.Goals as goal

pub returns-in_err-term : goal.returns-in_err-term
returns-in_err-term c =
    err_reads _ _ _ _ _ c.from_residual.ensures.1
    (rest-fails term_of of_term _ _ _ _ (some_words _ _ c.rest-test.true c.is_empty.ensures)
    c.rest.invariant (term_fails (left c.rest.words) _ c.in_err-term.ensures))

pub rest-smaller : goal.rest-smaller
rest-smaller c =
    argument-shorter of_term _ _ _ (term_argument (left c.rest.words) _ _ c.in_ok-term.ensures)

pub rest-preserved : goal.rest-preserved
rest-preserved c =
    rest-turn term_of of_term _ _ _ _ _ _
    (some_words _ _ c.rest-test.true c.is_empty.ensures) c.in_ok-push.ensures.ok
    (term_argument (left c.rest.words) _ _ c.in_ok-term.ensures) c.rest.invariant
