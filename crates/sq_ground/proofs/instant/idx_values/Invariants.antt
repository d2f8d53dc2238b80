use Rattle.std.proofs.Common.{◌≡◌, take, map}
use Rattle.sq_term.specs.Translate.{idx_value}
use Rattle.sq_ground.specs.Calls.Readings.{given}
use Rattle.sq_ground.proofs.instant.idx_values.Given as goal

abbrev pub invariant-loop-i : goal.invariant-loop-i
invariant-loop-i l = l.numbers ≡ map (idx_value (given l.w) l.bs) (take l.i-index l.is)
