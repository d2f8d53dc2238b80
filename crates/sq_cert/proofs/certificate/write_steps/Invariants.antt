use Rattle.std.proofs.Common.{◌≡◌, ◌++◌, drop, map}
use Rattle.sq_cert_steps.specs.Lines.{step_line}
use Rattle.sq_cert.specs.Certificates.{lines_text}
use Rattle.sq_cert.proofs.certificate.write_steps.Given as goal

abbrev pub invariant-loop-step : goal.invariant-loop-step
invariant-loop-step l =
    l.out ++ lines_text (map step_line (drop l.step-index l.steps))
    ≡ l.fn.out ++ lines_text (map step_line l.steps)
