-- Two changes of variables alone after each other are one, and a change that keeps each variable
-- keeps the term.
use Rattle.std.proofs.Common.{◌≡◌, refl, ap, ◌∙◌, ℕ, ◌+◌, true, List, [], ◌∷◌, map}
use Rattle.std.specs.Prelude.{None}
use Rattle.sq_term.specs.declared.term.Side.TheVariants.{Both}
use Rattle.sq_term.specs.declared.term.Idx.{Idx}
use Rattle.sq_term.specs.Syntax.{TsTree, free, bound, init, pred, action, TermTree, name, fun}
use Rattle.sq_term.specs.Syntax.{macro, schema, diff, le, ts_eq, idx_eq, happens, all, some, find}
use Rattle.sq_term.specs.Syntax.{TermTrees, nil, cons}
use Rattle.sq_subst.specs.Leaves.{Leaves, map_ts, map_term, map_terms}
use Rattle.sq_subst.specs.Tests.{Tests, indices_pass, ts_passes, passes, all_pass}
use Rattle.sq_subst.proofs.InPlace.{map_ts-below}
use Rattle.sq_subst.proofs.LeavesLaw.{first_of_both, second_of_both}

-- the same of variables alone
abbrev pub plain : Leaves → Leaves
plain L = record L { time = λ t. None; term = λ t. None; side = Both }

abbrev pub compose : Leaves → Leaves → Leaves
compose L K = record {
  index = λ m i. L.index m (K.index m i);
  free_time = λ m k. map_ts (plain L) m (K.free_time m k);
  bound_time = λ m k. map_ts (plain L) m (K.bound_time m k);
  message = λ m k. map_term (plain L) m (K.message m k);
  time = λ t. None;
  term = λ t. None;
  side = Both;
}

module _ (L K : Leaves) where
  indices_fused : (m : ℕ) (is : List Idx)
      → map (L.index m) (map (K.index m) is) ≡ map ((compose L K).index m) is
  indices_fused m [] = refl
  indices_fused m (i ∷ is) = ap (λ js. L.index m (K.index m i) ∷ js) (indices_fused m is)

  ts_fused : (m : ℕ) (t : TsTree)
      → map_ts (plain L) m (map_ts (plain K) m t) ≡ map_ts (compose L K) m t
  ts_fused m (free k) = refl
  ts_fused m (bound k) = refl
  ts_fused m init = refl
  ts_fused m (pred t) = ap pred (ts_fused m t)
  ts_fused m (action n is) = ap (action n) (indices_fused m is)

  mutual
    pub fused : (m : ℕ) (t : TermTree)
        → map_term (plain L) m (map_term (plain K) m t) ≡ map_term (compose L K) m t
    fused m (name n is) = ap (name n) (indices_fused m is)
    fused m (fun f is ts) = λ i. fun f (indices_fused m is i) (all_fused m ts i)
    fused m (macro x t) = ap (macro x) (ts_fused m t)
    fused m (schema k) = refl
    fused m (diff a b) = λ i. diff (fused m a i) (fused m b i)
    fused m (le t s) = λ i. le (ts_fused m t i) (ts_fused m s i)
    fused m (ts_eq t s) = λ i. ts_eq (ts_fused m t i) (ts_fused m s i)
    fused m (idx_eq i j) = refl
    fused m (happens t) = ap happens (ts_fused m t)
    fused m (all s t) = ap (all s) (fused (m + 1) t)
    fused m (some s t) = ap (some s) (fused (m + 1) t)
    fused m (find n c a b) = λ i. find n (fused (m + n) c i) (fused (m + n) a i) (fused m b i)

    all_fused : (m : ℕ) (ts : TermTrees)
        → map_terms (plain L) m (map_terms (plain K) m ts) ≡ map_terms (compose L K) m ts
    all_fused m nil = refl
    all_fused m (cons t ts) = λ i. cons (fused m t i) (all_fused m ts i)

module _ (L : Leaves) (P : Tests)
    (index : (m : ℕ) (i : Idx) → P.index m i ≡ true → L.index m i ≡ i)
    (free_time : (m k : ℕ) → P.free_time m k ≡ true → L.free_time m k ≡ free k)
    (bound_time : (m k : ℕ) → P.bound_time m k ≡ true → L.bound_time m k ≡ bound k)
    (time : (t : TsTree) → L.time t ≡ None) where
  pub indices_kept : (m : ℕ) (is : List Idx) → indices_pass P m is ≡ true
      → map (L.index m) is ≡ is
  indices_kept m [] h = refl
  indices_kept m (i ∷ is) h =
      cc (index m i (first_of_both _ _ h), indices_kept m is (second_of_both (P.index m i) _ h))

  pub ts_kept : (m : ℕ) (t : TsTree) → ts_passes P m t ≡ true → map_ts L m t ≡ t
  ts_kept m (free k) h = map_ts-below L m (free k) (time (free k)) ∙ free_time m k h
  ts_kept m (bound k) h = map_ts-below L m (bound k) (time (bound k)) ∙ bound_time m k h
  ts_kept m init h = map_ts-below L m init (time init)
  ts_kept m (pred t) h = map_ts-below L m (pred t) (time (pred t)) ∙ ap pred (ts_kept m t h)
  ts_kept m (action n is) h =
      map_ts-below L m (action n is) (time (action n is)) ∙ ap (action n) (indices_kept m is h)

module _ (L : Leaves) (P : Tests)
    (index : (m : ℕ) (i : Idx) → P.index m i ≡ true → L.index m i ≡ i)
    (free_time : (m k : ℕ) → P.free_time m k ≡ true → L.free_time m k ≡ free k)
    (bound_time : (m k : ℕ) → P.bound_time m k ≡ true → L.bound_time m k ≡ bound k)
    (message : (m k : ℕ) → P.message m k ≡ true → L.message m k ≡ schema k) where
  all_indices : (m : ℕ) (is : List Idx) → indices_pass P m is ≡ true
      → map (L.index m) is ≡ is
  all_indices = indices_kept (plain L) P index free_time bound_time (λ t. refl)

  all_times : (m : ℕ) (t : TsTree) → ts_passes P m t ≡ true → map_ts (plain L) m t ≡ t
  all_times = ts_kept (plain L) P index free_time bound_time (λ t. refl)

  mutual
    pub kept : (m : ℕ) (t : TermTree) → passes P m t ≡ true → map_term (plain L) m t ≡ t
    kept m (name n is) h = ap (name n) (all_indices m is h)
    kept m (fun f is ts) h =
        cc (
          all_indices m is (first_of_both _ _ h),
          all_kept m ts
              (second_of_both (indices_pass P m is) _ h),
        )
    kept m (macro x t) h = ap (macro x) (all_times m t h)
    kept m (schema k) h = message m k h
    kept m (diff a b) h =
        cc (kept m a (first_of_both _ _ h), kept m b (second_of_both (passes P m a) _ h))
    kept m (le t s) h =
        cc (
          all_times m t (first_of_both _ _ h),
          all_times m s (second_of_both (ts_passes P m t) _ h),
        )
    kept m (ts_eq t s) h =
        cc (
          all_times m t (first_of_both _ _ h),
          all_times m s (second_of_both (ts_passes P m t) _ h),
        )
    kept m (idx_eq i j) h =
        cc (index m i (first_of_both _ _ h), index m j (second_of_both (P.index m i) _ h))
    kept m (happens t) h = ap happens (all_times m t h)
    kept m (all s t) h = ap (all s) (kept (m + 1) t h)
    kept m (some s t) h = ap (some s) (kept (m + 1) t h)
    kept m (find n c a b) h =
        let rest = second_of_both (passes P (m + n) c) _ h in
        cc (
          kept (m + n) c (first_of_both _ _ h),
          kept (m + n) a (first_of_both _ _ rest),
          kept m b
              (second_of_both (passes P (m + n) a) _ rest),
        )

    all_kept : (m : ℕ) (ts : TermTrees) → all_pass P m ts ≡ true → map_terms (plain L) m ts ≡ ts
    all_kept m nil h = refl
    all_kept m (cons t ts) h =
        cc (kept m t (first_of_both _ _ h), all_kept m ts (second_of_both (passes P m t) _ h))
