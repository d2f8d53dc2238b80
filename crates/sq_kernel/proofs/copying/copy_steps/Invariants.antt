use Rattle.std.proofs.Common.{◌≡◌, take}
use Rattle.sq_kernel.proofs.copying.copy_steps.Given as goal

abbrev pub invariant-loop-step : goal.invariant-loop-step
invariant-loop-step l = l.out ≡ take l.step-index l.steps
