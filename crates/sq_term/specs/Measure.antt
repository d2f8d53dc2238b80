-- How many nodes a term has, and how deep it is.
use Rattle.std.specs.Prelude.{ℕ, ◌+◌, suc, max, List, [], ◌∷◌, length}
use Rattle.sq_term.specs.declared.term.Idx.{Idx}
use Rattle.sq_term.specs.Macros.{macro_indices}
use Rattle.sq_term.specs.Syntax.{TsTree, free, bound, init, pred, action, TermTree, name, fun}
use Rattle.sq_term.specs.Syntax.{macro, schema, diff, le, ts_eq, idx_eq, happens, all, some, find}
use Rattle.sq_term.specs.Syntax.{TermTrees, nil, cons}

-- each term, timestamp and index is one node
abbrev pub ts_size : TsTree → ℕ
ts_size (free n) = 1
ts_size (bound n) = 1
ts_size init = 1
ts_size (pred t) = suc (ts_size t)
ts_size (action a is) = suc (length is)

abbrev pub count_terms : TermTrees → ℕ
count_terms nil = 0
count_terms (cons t ts) = suc (count_terms ts)

abbrev mutual
  pub size : TermTree → ℕ
  size (name n is) = suc (length is)
  size (fun f is ts) = suc (length is + sizes ts)
  size (macro m t) = suc (length (macro_indices m) + ts_size t)
  size (schema n) = 1
  size (diff a b) = suc (size a + size b)
  size (le a b) = suc (ts_size a + ts_size b)
  size (ts_eq a b) = suc (ts_size a + ts_size b)
  size (idx_eq a b) = 3
  size (happens t) = suc (ts_size t)
  size (all s t) = suc (size t)
  size (some s t) = suc (size t)
  size (find n c a b) = suc (size c + size a + size b)

  pub sizes : TermTrees → ℕ
  sizes nil = 0
  sizes (cons t ts) = size t + sizes ts

-- the most nodes on a way from the root to a leaf
abbrev pub indices_depth : List Idx → ℕ
indices_depth [] = 0
indices_depth (i ∷ is) = 1

abbrev pub ts_depth : TsTree → ℕ
ts_depth (free n) = 1
ts_depth (bound n) = 1
ts_depth init = 1
ts_depth (pred t) = ts_depth t + 1
ts_depth (action a is) = indices_depth is + 1

abbrev mutual
  pub depth : TermTree → ℕ
  depth (name n is) = indices_depth is + 1
  depth (fun f is ts) = max (indices_depth is) (depths ts) + 1
  depth (macro m t) = max (indices_depth (macro_indices m)) (ts_depth t) + 1
  depth (schema n) = 1
  depth (diff a b) = max (depth a) (depth b) + 1
  depth (le a b) = max (ts_depth a) (ts_depth b) + 1
  depth (ts_eq a b) = max (ts_depth a) (ts_depth b) + 1
  depth (idx_eq a b) = 2
  depth (happens t) = ts_depth t + 1
  depth (all s t) = depth t + 1
  depth (some s t) = depth t + 1
  depth (find n c a b) = max (max (depth c) (depth a)) (depth b) + 1

  pub depths : TermTrees → ℕ
  depths nil = 0
  depths (cons t ts) = max (depth t) (depths ts)
