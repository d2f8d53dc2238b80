use Rattle.std.proofs.Common.{◌≡◌, drop}
use Rattle.std.specs.Prelude.{◌||◌}
use Rattle.sq_resolve.specs.Stops.{bind_timestamp}
use Rattle.sq_resolve.proofs.stops.bind_timestamp.Given as goal

abbrev pub invariant-loop-group : goal.invariant-loop-group
invariant-loop-group l =
    (l.any || bind_timestamp (drop l.group-index l.groups)) ≡ bind_timestamp l.groups
