use Rattle.std.proofs.Common.{◌≡◌, ◌++◌, take}
use Rattle.sq_resolve.specs.Resolved.{group_variables}
use Rattle.sq_resolve.proofs.names.push_names.Given as goal

abbrev pub invariant-loop-name : goal.invariant-loop-name
invariant-loop-name l =
    l.around ≡ l.initial.around ++ group_variables l.sort (take l.name-index l.names)
