use Rattle.std.proofs.Common.{◌≡◌, take, map}
use Rattle.sq_term.specs.declared.model.Value.TheVariants.{Index as Number}
use Rattle.sq_ground.proofs.table.own_values.Given as goal

abbrev pub invariant-loop-n : goal.invariant-loop-n
invariant-loop-n l = l.values ≡ map Number (take l.n-index l.idx)
