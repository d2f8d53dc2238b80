-- A test of each variable of a term, with the number of binders around it.
use Rattle.std.specs.Prelude.{ℕ, ◌+◌, Bool, true, ◌&&◌, List, [], ◌∷◌}
use Rattle.sq_term.specs.declared.term.Idx.{Idx}
use Rattle.sq_term.specs.Macros.{macro_indices}
use Rattle.sq_term.specs.Syntax.{TsTree, free, bound, init, pred, action, TermTree, name, fun}
use Rattle.sq_term.specs.Syntax.{macro, schema, diff, le, ts_eq, idx_eq, happens, all, some, find}
use Rattle.sq_term.specs.Syntax.{TermTrees, nil, cons}

pub record Tests : Type 0 where
  pub index : ℕ → Idx → Bool
  pub free_time : ℕ → ℕ → Bool
  pub bound_time : ℕ → ℕ → Bool
  pub message : ℕ → ℕ → Bool

module _ (P : Tests) where
  abbrev pub indices_pass : ℕ → List Idx → Bool
  indices_pass m [] = true
  indices_pass m (i ∷ is) = P.index m i && indices_pass m is

  abbrev pub ts_passes : ℕ → TsTree → Bool
  ts_passes m (free k) = P.free_time m k
  ts_passes m (bound k) = P.bound_time m k
  ts_passes m init = true
  ts_passes m (pred t) = ts_passes m t
  ts_passes m (action n is) = indices_pass m is

  abbrev mutual
    pub passes : ℕ → TermTree → Bool
    passes m (name n is) = indices_pass m is
    passes m (fun f is ts) = indices_pass m is && all_pass m ts
    passes m (macro x t) = indices_pass m (macro_indices x) && ts_passes m t
    passes m (schema k) = P.message m k
    passes m (diff a b) = passes m a && passes m b
    passes m (le t s) = ts_passes m t && ts_passes m s
    passes m (ts_eq t s) = ts_passes m t && ts_passes m s
    passes m (idx_eq i j) = P.index m i && P.index m j
    passes m (happens t) = ts_passes m t
    passes m (all s body) = passes (m + 1) body
    passes m (some s body) = passes (m + 1) body
    passes m (find c test found other) =
        passes (m + c) test && (passes (m + c) found && passes m other)

    pub all_pass : ℕ → TermTrees → Bool
    all_pass m nil = true
    all_pass m (cons t ts) = passes m t && all_pass m ts
