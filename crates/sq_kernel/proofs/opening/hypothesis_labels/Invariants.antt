use Rattle.std.proofs.Common.{◌≡◌}
use Rattle.sq_kernel.specs.Labels.{hypothesis_labels}
use Rattle.sq_kernel.proofs.opening.hypothesis_labels.Given as goal

abbrev pub invariant-loop-number : goal.invariant-loop-number
invariant-loop-number l = l.labels ≡ hypothesis_labels l.number
