use Rattle.std.proofs.Common.{◌≡◌, drop}
use Rattle.sq_resolve.specs.Scopes.{last_name_from, last_name}
use Rattle.sq_resolve.proofs.head.last_name.Given as goal

abbrev pub invariant-loop-at : goal.invariant-loop-at
invariant-loop-at l =
    last_name_from l.at l.best l.name (drop l.at l.names) ≡ last_name l.name l.names
