use Rattle.sq_cert_terms.proofs.Wrote.{wrote-term}
use Rattle.sq_cert_terms.proofs.writing.+write.Goals as goal

pub write_terms-loop-term-preserved : goal.write_terms-loop-term-preserved
write_terms-loop-term-preserved t c =
    wrote-term _ _ _ _ _ c.term-item.result c.loop-term-test.true c.term-item.is
    c.in_ok-write_term.ensures c.loop-term.invariant
