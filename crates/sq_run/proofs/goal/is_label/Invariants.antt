use Rattle.std.proofs.Common.{◌≡◌, drop}
use Rattle.sq_run.specs.Running.{is_label}
use Rattle.sq_run.proofs.goal.is_label.Given as goal

abbrev pub invariant-loop-own : goal.invariant-loop-own
invariant-loop-own l = is_label (drop l.own-index l.labels) l.label ≡ is_label l.labels l.label
