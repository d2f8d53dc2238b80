use Rattle.std.proofs.Common.{◌≡◌, ◌≤◌, ◌+◌, length}
use Rattle.sq_cert.specs.Progress.{TakesSteps}
use Rattle.sq_cert.proofs.certificate.read_steps.Given as goal

abbrev pub invariant-steps : goal.invariant-steps
invariant-steps l = record {
  counted : length l.steps ≡ l.counter;
  takes : TakesSteps l.steps l.fn.lines.rest.now l.lines.rest.now;
  taken : l.lines.taken ≡ l.fn.lines.taken + length l.steps;
  within : l.lines.taken + length l.lines.rest.now
      ≤ l.fn.lines.taken + length l.fn.lines.rest.now;
}
