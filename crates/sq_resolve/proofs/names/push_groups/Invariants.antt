use Rattle.std.proofs.Common.{◌≡◌, ◌++◌, drop}
use Rattle.sq_resolve.specs.Resolved.{variables}
use Rattle.sq_resolve.proofs.names.push_groups.Given as goal

abbrev pub invariant-loop-group : goal.invariant-loop-group
invariant-loop-group l =
    l.around ++ variables (drop l.group-index l.groups) ≡ l.initial.around ++ variables l.groups
