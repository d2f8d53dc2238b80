use Rattle.std.proofs.Common.{◌≡◌, ◌++◌, map, drop}
use Rattle.sq_term.specs.Arguments.{an_index, arg_tree}
use Rattle.sq_rules_trace.proofs.macros.index_arguments.Given as goal

abbrev pub invariant-loop-i : goal.invariant-loop-i
invariant-loop-i l =
    map arg_tree l.out ++ map an_index (drop l.i-index l.indices)
    ≡ map an_index l.indices
