use Rattle.std.proofs.Common.{rules, ◌≢◌}
use Rattle.sq_cert.specs.Certificates.{header}
use Rattle.sq_cert.proofs.Stops.{first-short, first-refused, refusal-stops, blocks-writable}
use Rattle.sq_cert.proofs.certificate.read.Goals as goal

pub returns-in_err-header-clause-refused : goal.returns-in_err-header-clause-refused
returns-in_err-header-clause-refused c =
    refusal-stops c.from_residual.result c.args.bytes.now c.in_err-header.field-0.0
    c.from_residual.ensures.1
    (first-short c.args.bytes.now c.in_err-header.field-0.0 c.in_err-header.ensures.line.0
    c.in_err-header.ensures.line.1)

pub returns-then-ne-clause-refused : goal.returns-then-ne-clause-refused
returns-then-ne-clause-refused c =
    let other : c.in_ok-header.header.now ≢ header = search rules in
    first-refused c.args.bytes.now c.in_ok-header.header.now _ c.in_ok-header.ensures.line.0
    c.in_ok-header.ensures.line.1 other

pub returns-clause-writable : goal.returns-clause-writable
returns-clause-writable c = blocks-writable _ _ c.read_blocks.ensures.ok
