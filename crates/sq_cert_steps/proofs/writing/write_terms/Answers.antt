use Rattle.sq_cert_steps.specs.Lines.{term_of}
use Rattle.sq_cert_steps.proofs.Writes.{wrote-argument}
use Rattle.sq_cert_steps.proofs.writing.write_terms.Goals as goal

pub loop-term-preserved : goal.loop-term-preserved
loop-term-preserved c =
    wrote-argument term_of _ _ _ _ _ c.term-item.result c.loop-term-test.true c.term-item.is
    c.in_ok-write_term_argument.ensures c.loop-term.invariant
