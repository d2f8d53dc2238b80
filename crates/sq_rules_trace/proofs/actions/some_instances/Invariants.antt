use Rattle.std.proofs.Common.{◌≡◌, ◌∷◌, ◌++◌, map, drop}
use Rattle.sq_term.specs.Syntax.{ts_eq, init}
use Rattle.sq_term.specs.Systems.{action_trees}
use Rattle.sq_term.specs.View.{ts_tree, term_tree}
use Rattle.sq_rules_trace.specs.ActionFacts.{instances_from}
use Rattle.sq_rules_trace.proofs.actions.some_instances.Given as goal

abbrev pub invariant-loop-number : goal.invariant-loop-number
invariant-loop-number l =
    map term_tree l.out
    ++ instances_from (ts_tree l.t) l.number (action_trees (drop l.number l.actions))
    ≡ ts_eq (ts_tree l.t) init ∷ instances_from (ts_tree l.t) 0 (action_trees l.actions)
