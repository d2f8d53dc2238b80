use Rattle.sq_cert_steps.specs.Lines.{value_of}
use Rattle.sq_cert_steps.proofs.Writes.{wrote-argument}
use Rattle.sq_cert_steps.proofs.writing.write_values.Goals as goal

pub loop-value-preserved : goal.loop-value-preserved
loop-value-preserved c =
    wrote-argument value_of _ _ _ _ _ c.value-item.result c.loop-value-test.true c.value-item.is
    c.in_ok-write_value.ensures c.loop-value.invariant
