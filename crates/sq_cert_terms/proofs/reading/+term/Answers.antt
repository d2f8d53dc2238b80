use Rattle.sq_cert_terms.proofs.Steps.{terms-turn, terms-end}
use Rattle.sq_cert_terms.proofs.reading.+term.Goals as goal

pub terms-terms-preserved : goal.terms-terms-preserved
terms-terms-preserved t c =
    terms-turn _ _ _ c.in_ok-term.field-0 _ _ _ _ c.in_ok-push.ensures.ok c.terms-test.true
    c.in_ok-term.ensures c.terms.invariant

pub terms-returns : goal.terms-returns
terms-returns t c = terms-end _ _ _ _ _ c.terms-test.false c.terms.invariant
