use Rattle.std.proofs.Common.{◌≡◌, None, drop}
use Rattle.sq_resolve.specs.Scopes.{last_given}
use Rattle.sq_resolve.proofs.head.last_given.Given as goal

abbrev pub invariant-loop-entry : goal.invariant-loop-entry
invariant-loop-entry l =
    last_given l.best l.name (drop l.entry-index l.given) ≡ last_given None l.name l.given
