-- The test of equality of trees.
use Rattle.std.specs.Prelude.{Bool, true, false, ◌&&◌, ◌==◌}
use Rattle.std.specs.Cmp.Lexicographic.{pointwise}
use Rattle.sq_base.specs.declared.sort.Sort.{Sort}
use Rattle.sq_base.specs.declared.sort.Sort.TheVariants.{Message, Boolean, Index, Timestamp}
use Rattle.sq_term.specs.declared.term.Macro.{Macro}
use Rattle.sq_term.specs.declared.term.Macro.TheVariants.{Input, Output, Cond, Exec, Frame}
use Rattle.sq_term.specs.Symbols.{same_kind}
use Rattle.sq_term.specs.Syntax.{TermTree, name, fun, macro, schema, diff, le, ts_eq, idx_eq}
use Rattle.sq_term.specs.Syntax.{happens, all, some, find, TermTrees, nil, cons}
use Rattle.sq_term.specs.TsEquality.{is_same_idx, is_same_ts_tree}

abbrev pub is_same_sort : Sort → Sort → Bool
is_same_sort Message Message = true
is_same_sort Boolean Boolean = true
is_same_sort Index Index = true
is_same_sort Timestamp Timestamp = true
is_same_sort _ _ = false

abbrev pub is_same_macro : Macro → Macro → Bool
is_same_macro Input Input = true
is_same_macro Output Output = true
is_same_macro Cond Cond = true
is_same_macro Exec Exec = true
is_same_macro Frame Frame = true
is_same_macro _ _ = false

abbrev mutual
  pub is_same_tree : TermTree → TermTree → Bool
  is_same_tree (name m is) (name n js) = (m == n) && pointwise is_same_idx is js
  is_same_tree (fun f is ts) (fun g js us) =
      same_kind f g && (pointwise is_same_idx is js && are_same_trees ts us)
  is_same_tree (macro m s) (macro n t) = is_same_macro m n && is_same_ts_tree s t
  is_same_tree (schema m) (schema n) = m == n
  is_same_tree (diff a b) (diff c d) = is_same_tree a c && is_same_tree b d
  is_same_tree (le a b) (le c d) = is_same_ts_tree a c && is_same_ts_tree b d
  is_same_tree (ts_eq a b) (ts_eq c d) = is_same_ts_tree a c && is_same_ts_tree b d
  is_same_tree (idx_eq a b) (idx_eq c d) = is_same_idx a c && is_same_idx b d
  is_same_tree (happens s) (happens t) = is_same_ts_tree s t
  is_same_tree (all r s) (all q t) = is_same_sort r q && is_same_tree s t
  is_same_tree (some r s) (some q t) = is_same_sort r q && is_same_tree s t
  is_same_tree (find m a b c) (find n d e f) =
      (m == n) && (is_same_tree a d && (is_same_tree b e && is_same_tree c f))
  is_same_tree _ _ = false

  pub are_same_trees : TermTrees → TermTrees → Bool
  are_same_trees nil nil = true
  are_same_trees (cons t ts) (cons u us) = is_same_tree t u && are_same_trees ts us
  are_same_trees _ _ = false
