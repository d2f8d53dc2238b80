use Rattle.std.proofs.Common.{◌≡◌, map, length}
use Rattle.sq_term.specs.Builtins.{builtin_kind}
use Rattle.sq_term.specs.View.{term_tree}
use Rattle.sq_rules_trace.specs.Nested.{nested}
use Rattle.sq_rules_trace.proofs.NestedLists.{nested_so_far}
use Rattle.sq_rules_trace.proofs.lists.nested.Given as goal

abbrev pub invariant-loop-part : goal.invariant-loop-part
invariant-loop-part l =
    nested_so_far (builtin_kind l.connective) (builtin_kind l.fn.unit) l.parts l.whole
    ≡ nested (builtin_kind l.connective) (builtin_kind l.fn.unit) (map term_tree l.fn.parts)

abbrev pub decreases-loop-part : goal.decreases-loop-part
decreases-loop-part l = length l.parts
