-- Bound variables and the binders that they count.
use Rattle.std.specs.Prelude.{ℕ, ◌+◌, ◌-◌, suc, max, Bool, true, ◌&&◌, nat_lt, List, [], ◌∷◌}
use Rattle.sq_term.specs.declared.term.Idx.{Idx}
use Rattle.sq_term.specs.declared.term.Idx.TheVariants as idx
use Rattle.sq_term.specs.Macros.{macro_indices}
use Rattle.sq_term.specs.Syntax.{TsTree, free, bound, init, pred, action, TermTree, name, fun}
use Rattle.sq_term.specs.Syntax.{macro, schema, diff, le, ts_eq, idx_eq, happens, all, some, find}
use Rattle.sq_term.specs.Syntax.{TermTrees, nil, cons}

-- no bound variable reaches past k binders around the term
abbrev pub idx_closed : ℕ → Idx → Bool
idx_closed k (idx.Free n) = true
idx_closed k (idx.Bound j) = nat_lt j k

abbrev pub indices_closed : ℕ → List Idx → Bool
indices_closed k [] = true
indices_closed k (i ∷ is) = idx_closed k i && indices_closed k is

abbrev pub ts_closed : ℕ → TsTree → Bool
ts_closed k (free n) = true
ts_closed k (bound j) = nat_lt j k
ts_closed k init = true
ts_closed k (pred t) = ts_closed k t
ts_closed k (action a is) = indices_closed k is

abbrev mutual
  pub is_closed : ℕ → TermTree → Bool
  is_closed k (name n is) = indices_closed k is
  is_closed k (fun f is ts) = indices_closed k is && are_closed k ts
  is_closed k (macro m t) = indices_closed k (macro_indices m) && ts_closed k t
  is_closed k (schema n) = true
  is_closed k (diff a b) = is_closed k a && is_closed k b
  is_closed k (le a b) = ts_closed k a && ts_closed k b
  is_closed k (ts_eq a b) = ts_closed k a && ts_closed k b
  is_closed k (idx_eq a b) = idx_closed k a && idx_closed k b
  is_closed k (happens t) = ts_closed k t
  is_closed k (all s t) = is_closed (suc k) t
  is_closed k (some s t) = is_closed (suc k) t
  is_closed k (find n c a b) = is_closed (k + n) c && (is_closed (k + n) a && is_closed k b)

  pub are_closed : ℕ → TermTrees → Bool
  are_closed k nil = true
  are_closed k (cons t ts) = is_closed k t && are_closed k ts

-- one more than the bound variable that reaches furthest past the term's own binders, or 0
abbrev pub idx_loose : Idx → ℕ
idx_loose (idx.Free n) = 0
idx_loose (idx.Bound j) = j + 1

abbrev pub indices_loose : List Idx → ℕ
indices_loose [] = 0
indices_loose (i ∷ is) = max (idx_loose i) (indices_loose is)

abbrev pub ts_loose : TsTree → ℕ
ts_loose (free n) = 0
ts_loose (bound j) = j + 1
ts_loose init = 0
ts_loose (pred t) = ts_loose t
ts_loose (action a is) = indices_loose is

abbrev mutual
  pub loose : TermTree → ℕ
  loose (name n is) = indices_loose is
  loose (fun f is ts) = max (indices_loose is) (all_loose ts)
  loose (macro m t) = max (indices_loose (macro_indices m)) (ts_loose t)
  loose (schema n) = 0
  loose (diff a b) = max (loose a) (loose b)
  loose (le a b) = max (ts_loose a) (ts_loose b)
  loose (ts_eq a b) = max (ts_loose a) (ts_loose b)
  loose (idx_eq a b) = max (idx_loose a) (idx_loose b)
  loose (happens t) = ts_loose t
  loose (all s t) = loose t - 1
  loose (some s t) = loose t - 1
  loose (find n c a b) = max (max (loose c - n) (loose a - n)) (loose b)

  pub all_loose : TermTrees → ℕ
  all_loose nil = 0
  all_loose (cons t ts) = max (loose t) (all_loose ts)
