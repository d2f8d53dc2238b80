use Rattle.std.proofs.Common.{◌≡◌, take}
use Rattle.sq_step.proofs.copying.values.Given as goal

abbrev pub invariant-loop-arg : goal.invariant-loop-arg
invariant-loop-arg l = l.out ≡ take l.arg-index l.args
