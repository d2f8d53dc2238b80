use Rattle.sq_cert.proofs.Stops.{block-stops}
use Rattle.sq_cert.proofs.certificate.read_block.Goals as goal

pub returns-in_err-steps-clause-refused : goal.returns-in_err-steps-clause-refused
returns-in_err-steps-clause-refused c =
    block-stops c.from_residual-in_err-steps.result c.args.line.now c.in-Some.name _
    c.in-Some.count _ _ c.from_residual-in_err-steps.ensures.1
    (rw c.in-Some.is at c.in_ok-name.ensures) c.in_err-steps.ensures.refused
