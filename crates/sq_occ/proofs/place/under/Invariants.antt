use Rattle.std.proofs.Common.{◌≡◌, ◌++◌, replicate}
use Rattle.sq_occ.proofs.place.under.Given as goal

abbrev pub invariant-loop : goal.invariant-loop
invariant-loop l = l.inner ≡ l.above ++ replicate l.counter l.sort
