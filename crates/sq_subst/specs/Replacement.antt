-- A timestamp or a term in the place of another, at each outermost place.
use Rattle.std.specs.Prelude.{Some, None, if◌then◌else◌}
use Rattle.sq_term.specs.Syntax.{TsTree, TermTree}
use Rattle.sq_term.specs.TsEquality.{is_same_ts_tree}
use Rattle.sq_term.specs.TreeEquality.{is_same_tree}
use Rattle.sq_subst.specs.Leaves.{Leaves, keeping, map_term}

abbrev pub exchanging_times : TsTree → TsTree → Leaves
exchanging_times from to =
    record keeping { time = λ t. if is_same_ts_tree t from then Some to else None }

abbrev pub exchanging_terms : TermTree → TermTree → Leaves
exchanging_terms from to =
    record keeping { term = λ t. if is_same_tree t from then Some to else None }

abbrev pub ts_replaced : TsTree → TsTree → TermTree → TermTree
ts_replaced from to t = map_term (exchanging_times from to) 0 t

abbrev pub term_replaced : TermTree → TermTree → TermTree → TermTree
term_replaced from to t = map_term (exchanging_terms from to) 0 t
