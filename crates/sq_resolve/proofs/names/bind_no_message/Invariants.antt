use Rattle.std.proofs.Common.{◌≡◌, drop}
use Rattle.std.specs.Prelude.{◌&&◌}
use Rattle.sq_resolve.specs.Resolved.{bind_no_message}
use Rattle.sq_resolve.proofs.names.bind_no_message.Given as goal

abbrev pub invariant-loop-group : goal.invariant-loop-group
invariant-loop-group l =
    (l.all && bind_no_message (drop l.group-index l.groups)) ≡ bind_no_message l.groups
