-- A term with something in the place of its variables is no smaller than the term.
use Rattle.std.proofs.Common.{◌≡◌, ◌≤◌, ℕ, ◌+◌, refl, List, [], ◌∷◌, map, length, arith}
use Rattle.std.proofs.lemmas.List.{length-map}
use Rattle.sq_term.specs.declared.term.Idx.{Idx}
use Rattle.sq_term.specs.Measure.{indices_depth, ts_size, size, sizes, ts_depth, depth, depths}
use Rattle.sq_term.specs.Syntax.{TsTree, free, bound, init, pred, action, TermTree, name, fun}
use Rattle.sq_term.specs.Syntax.{macro, schema, diff, le, ts_eq, idx_eq, happens, all, some, find}
use Rattle.sq_term.specs.Syntax.{TermTrees, nil, cons}
use Rattle.sq_subst.specs.Leaves.{Leaves, map_ts, map_term, map_terms}
use Rattle.sq_subst.proofs.Fusion.{plain}
use Rattle.sq_subst.proofs.Rooms.{ts_size-positive, ts_depth-positive, size-positive}
use Rattle.sq_subst.proofs.Rooms.{depth-positive}

module _ (L : Leaves) where
  indices_size : (is : List Idx) (m : ℕ) → length (map (L.index m) is) ≡ length is
  indices_size is m = length-map is (L.index m)

  indices_depth_same : (is : List Idx) (m : ℕ)
      → indices_depth (map (L.index m) is) ≡ indices_depth is
  indices_depth_same [] m = refl
  indices_depth_same (i ∷ is) m = refl

  time_size : (t : TsTree) (m : ℕ) → ts_size t ≤ ts_size (map_ts (plain L) m t)
  time_size (free k) m = ts_size-positive (L.free_time m k)
  time_size (bound k) m = ts_size-positive (L.bound_time m k)
  time_size init m = omega arith
  time_size (pred t) m = let h : ts_size t ≤ ts_size (map_ts (plain L) m t) = time_size t m in
      omega arith
  time_size (action n is) m = omega (arith, indices_size is m)

  time_depth : (t : TsTree) (m : ℕ) → ts_depth t ≤ ts_depth (map_ts (plain L) m t)
  time_depth (free k) m = ts_depth-positive (L.free_time m k)
  time_depth (bound k) m = ts_depth-positive (L.bound_time m k)
  time_depth init m = omega arith
  time_depth (pred t) m = let h : ts_depth t ≤ ts_depth (map_ts (plain L) m t) =
      time_depth t m in omega arith
  time_depth (action n is) m = omega (arith, indices_depth_same is m)

  mutual
    pub no-smaller : (t : TermTree) (m : ℕ) → size t ≤ size (map_term (plain L) m t)
    no-smaller (name n is) m = omega (arith, indices_size is m)
    no-smaller (fun f is ts) m = omega (arith, indices_size is m, none-smaller ts m)
    no-smaller (macro x t) m = omega (arith, time_size t m)
    no-smaller (schema k) m = size-positive (L.message m k)
    no-smaller (diff a b) m = omega (arith, no-smaller a m, no-smaller b m)
    no-smaller (le a b) m = omega (arith, time_size a m, time_size b m)
    no-smaller (ts_eq a b) m = omega (arith, time_size a m, time_size b m)
    no-smaller (idx_eq i j) m = omega arith
    no-smaller (happens t) m = omega (arith, time_size t m)
    no-smaller (all s t) m = omega (arith, no-smaller t (m + 1))
    no-smaller (some s t) m = omega (arith, no-smaller t (m + 1))
    no-smaller (find c t a b) m =
        omega (arith, no-smaller t (m + c), no-smaller a (m + c), no-smaller b m)

    none-smaller : (ts : TermTrees) (m : ℕ) → sizes ts ≤ sizes (map_terms (plain L) m ts)
    none-smaller nil m = omega arith
    none-smaller (cons t ts) m = omega (arith, no-smaller t m, none-smaller ts m)

  mutual
    pub no-flatter : (t : TermTree) (m : ℕ) → depth t ≤ depth (map_term (plain L) m t)
    no-flatter (name n is) m = omega (arith, indices_depth_same is m)
    no-flatter (fun f is ts) m = omega (arith, indices_depth_same is m, none-flatter ts m)
    no-flatter (macro x t) m = omega (arith, time_depth t m)
    no-flatter (schema k) m = depth-positive (L.message m k)
    no-flatter (diff a b) m = omega (arith, no-flatter a m, no-flatter b m)
    no-flatter (le a b) m = omega (arith, time_depth a m, time_depth b m)
    no-flatter (ts_eq a b) m = omega (arith, time_depth a m, time_depth b m)
    no-flatter (idx_eq i j) m = omega arith
    no-flatter (happens t) m = omega (arith, time_depth t m)
    no-flatter (all s t) m = omega (arith, no-flatter t (m + 1))
    no-flatter (some s t) m = omega (arith, no-flatter t (m + 1))
    no-flatter (find c t a b) m =
        omega (arith, no-flatter t (m + c), no-flatter a (m + c), no-flatter b m)

    none-flatter : (ts : TermTrees) (m : ℕ) → depths ts ≤ depths (map_terms (plain L) m ts)
    none-flatter nil m = omega arith
    none-flatter (cons t ts) m = omega (arith, no-flatter t m, none-flatter ts m)
