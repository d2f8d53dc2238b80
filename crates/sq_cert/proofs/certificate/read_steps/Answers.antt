use Rattle.std.proofs.Common.{ap, length, arith}
use Rattle.std.proofs.lemmas.List.{length_push}
use Rattle.sq_cert.proofs.Stops.{steps-more}
use Rattle.sq_cert.proofs.certificate.read_steps.Goals as goal

pub steps-preserved : goal.steps-preserved
steps-preserved c =
    let pushed = c.in_ok-push.ensures.ok in
    let size = length_push c.steps.steps c.in_ok-step_at.field-0 in
    record {
      counted = omega (arith, ap length pushed, size, c.steps.invariant.counted);
      takes = steps-more _ _ _ _ _ _ _ c.steps.invariant.takes c.in_ok-line.ensures.line.0
          c.in_ok-step_at.ensures.0 c.in_ok-step_at.ensures.1 pushed;
      taken = omega (
        arith,
        ap length pushed,
        size,
        c.steps.invariant.taken,
        c.in_ok-line.ensures.counted,
      );
      within = omega (arith, c.steps.invariant.within, c.in_ok-line.ensures.within);
    }
