-- One walk over a term: what stands in the place of each variable, with the number of binders
-- around it, of a timestamp or of a term, and which sides of a difference stay. What was put in is
-- not looked at again. Opening, closing, renaming, instances, replacing and projections are its
-- cases.
use Rattle.std.specs.Prelude.{ℕ, ◌+◌, map, Option, None, unwrap_or}
use Rattle.sq_term.specs.declared.term.Idx.{Idx}
use Rattle.sq_term.specs.declared.term.Side.{Side}
use Rattle.sq_term.specs.declared.term.Side.TheVariants.{Left, Right, Both}
use Rattle.sq_term.specs.Macros.{macro_indices, macro_at}
use Rattle.sq_term.specs.Syntax.{TsTree, free, bound, init, pred, action, TermTree, name, fun}
use Rattle.sq_term.specs.Syntax.{macro, schema, diff, le, ts_eq, idx_eq, happens, all, some, find}
use Rattle.sq_term.specs.Syntax.{TermTrees, nil, cons}

pub record Leaves : Type 0 where
  pub index : ℕ → Idx → Idx
  pub free_time : ℕ → ℕ → TsTree
  pub bound_time : ℕ → ℕ → TsTree
  pub message : ℕ → ℕ → TermTree
  pub time : TsTree → Option TsTree
  pub term : TermTree → Option TermTree
  pub side : Side

abbrev pub on_side : Side → TermTree → TermTree → TermTree
on_side Left a b = a
on_side Right a b = b
on_side Both a b = diff a b

module _ (L : Leaves) where
  -- where nothing stands in the place of the whole
  abbrev pub ts_below : ℕ → TsTree → TsTree
  ts_below m (free k) = L.free_time m k
  ts_below m (bound k) = L.bound_time m k
  ts_below m init = init
  ts_below m (pred t) = pred (unwrap_or (L.time t) (ts_below m t))
  ts_below m (action n is) = action n (map (L.index m) is)

  abbrev pub map_ts : ℕ → TsTree → TsTree
  map_ts m t = unwrap_or (L.time t) (ts_below m t)

  abbrev mutual
    pub term_below : ℕ → TermTree → TermTree
    term_below m (name n is) = name n (map (L.index m) is)
    term_below m (fun f is ts) = fun f (map (L.index m) is) (map_terms m ts)
    term_below m (macro x t) =
        macro (macro_at x (map (L.index m) (macro_indices x))) (map_ts m t)
    term_below m (schema k) = L.message m k
    term_below m (diff a b) =
        on_side L.side
        (unwrap_or (L.term a) (term_below m a)) (unwrap_or (L.term b) (term_below m b))
    term_below m (le t s) = le (map_ts m t) (map_ts m s)
    term_below m (ts_eq t s) = ts_eq (map_ts m t) (map_ts m s)
    term_below m (idx_eq i j) = idx_eq (L.index m i) (L.index m j)
    term_below m (happens t) = happens (map_ts m t)
    term_below m (all s body) = all s (unwrap_or (L.term body) (term_below (m + 1) body))
    term_below m (some s body) = some s (unwrap_or (L.term body) (term_below (m + 1) body))
    term_below m (find c test found other) =
        find c
        (unwrap_or (L.term test) (term_below (m + c) test))
        (unwrap_or (L.term found) (term_below (m + c) found))
        (unwrap_or (L.term other) (term_below m other))

    pub map_terms : ℕ → TermTrees → TermTrees
    map_terms m nil = nil
    map_terms m (cons t ts) = cons (unwrap_or (L.term t) (term_below m t)) (map_terms m ts)

  abbrev pub map_term : ℕ → TermTree → TermTree
  map_term m t = unwrap_or (L.term t) (term_below m t)

-- each part stays as it is
abbrev pub keeping : Leaves
keeping = record {
  index = λ m i. i;
  free_time = λ m k. free k;
  bound_time = λ m k. bound k;
  message = λ m k. schema k;
  time = λ t. None;
  term = λ t. None;
  side = Both;
}
