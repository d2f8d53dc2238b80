use Rattle.std.proofs.Common.{◌≡◌, drop}
use Rattle.sq_resolve.specs.Scopes.{last_from, last_of}
use Rattle.sq_resolve.proofs.head.last_of.Given as goal

abbrev pub invariant-loop-at : goal.invariant-loop-at
invariant-loop-at l = last_from l.at l.best l.name (drop l.at l.vars) ≡ last_of l.name l.vars
