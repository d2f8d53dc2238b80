-- A term whose variables and schema variables are there has all that an instance asks for.
use Rattle.std.proofs.Common.{◌≡◌, refl, ℕ, suc, ◌+◌, List, [], ◌∷◌, ◌++◌, length, true, ◌&&◌}
use Rattle.std.proofs.Common.{nat_lt}
use Rattle.std.specs.Prelude.{slice_get, replicate}
use Rattle.sq_base.specs.declared.sort.Sort.{Sort}
use Rattle.sq_base.specs.declared.sort.Sort.TheVariants.{Message, Boolean, Index, Timestamp}
use Rattle.sq_term.specs.declared.term.Idx.{Idx}
use Rattle.sq_term.specs.declared.term.Idx.TheVariants.{Free, Bound}
use Rattle.sq_term.specs.Arguments.{ArgTree}
use Rattle.sq_term.specs.Macros.{macro_indices}
use Rattle.sq_term.specs.Measure.{count_terms}
use Rattle.sq_term.specs.Pure.{is_binder_sort}
use Rattle.sq_term.specs.Symbols.{Kind, function_number}
use Rattle.sq_term.specs.Syntax.{TsTree, free, bound, init, pred, action, TermTree, name, fun}
use Rattle.sq_term.specs.Syntax.{macro, schema, diff, le, ts_eq, idx_eq, happens, all, some, find}
use Rattle.sq_term.specs.Syntax.{TermTrees, nil, cons}
use Rattle.sq_term.specs.TreeEquality.{is_same_sort}
use Rattle.sq_term.proofs.BoolTests.{and_split, and_both}
use Rattle.sq_typing.specs.Typing.{Signature, has_count_at, has_sort_at, is_index, are_indices}
use Rattle.sq_typing.specs.Typing.{is_timestamp, applies, result_sort, macro_sort, argument_sort}
use Rattle.sq_typing.specs.Typing.{has_sort, have_sorts}
use Rattle.sq_subst.specs.Laws.{takes_index, takes_time, idx_takes, reached}
use Rattle.sq_subst.specs.Tests.{indices_pass, ts_passes, passes, all_pass}
use Rattle.sq_formula.proofs.KeptSorts.{both_kept}

module _ (g : Signature) (vars : List ArgTree) (ms : List TermTree)
    (indices : (k : ℕ) → has_sort_at g.vars k Index ≡ true → takes_index (slice_get vars k) ≡ true)
    (times : (k : ℕ) → has_sort_at g.vars k Timestamp ≡ true → takes_time (slice_get vars k) ≡ true)
    (schemas : (k : ℕ) → nat_lt k g.schemas ≡ true → nat_lt k (length ms) ≡ true) where
  index_reached : (bs : List Sort) (i : Idx) → is_index g bs i ≡ true → idx_takes vars i ≡ true
  index_reached bs (Free k) h = indices k h
  index_reached bs (Bound k) h = refl

  indices_reached : (m : ℕ) (bs : List Sort) (is : List Idx) → are_indices g bs is ≡ true
      → indices_pass (reached vars ms) m is ≡ true
  indices_reached m bs [] h = refl
  indices_reached m bs (i ∷ is) h =
      both_kept (is_index g bs i) (are_indices g bs is) (idx_takes vars i)
      (indices_pass (reached vars ms) m is) (index_reached bs i) (indices_reached m bs is) h

  time_reached : (m : ℕ) (bs : List Sort) (t : TsTree) → is_timestamp g bs t ≡ true
      → ts_passes (reached vars ms) m t ≡ true
  time_reached m bs (free k) h = times k h
  time_reached m bs (bound k) h = refl
  time_reached m bs init h = refl
  time_reached m bs (pred t) h = time_reached m bs t h
  time_reached m bs (action a is) h =
      indices_reached m bs is
      (and_split (has_count_at g.actions a (length is)) (are_indices g bs is) h).1

  times_reached : (m : ℕ) (bs : List Sort) (t u : TsTree)
      → (is_timestamp g bs t && is_timestamp g bs u) ≡ true
      → (ts_passes (reached vars ms) m t && ts_passes (reached vars ms) m u) ≡ true
  times_reached m bs t u h =
      both_kept (is_timestamp g bs t) (is_timestamp g bs u) (ts_passes (reached vars ms) m t)
      (ts_passes (reached vars ms) m u) (time_reached m bs t) (time_reached m bs u) h

  mutual
    pub all_reached : (m : ℕ) (bs : List Sort) (s : Sort) (t : TermTree) → has_sort g bs s t ≡ true
        → passes (reached vars ms) m t ≡ true
    all_reached m bs s (name k is) h =
        indices_reached m bs is
        (and_split (has_count_at g.names k (length is)) (are_indices g bs is)
        (and_split (is_same_sort Message s) _ h).1).1
    all_reached m bs s (fun f is ts) h =
        let o = slice_get g.funs (function_number f) in
        let p = and_split (is_same_sort (result_sort o) s) _ h in
        let q = and_split (applies o (length is) (count_terms ts)) _ p.1 in
        both_kept (are_indices g bs is) (have_sorts g bs f 0 ts)
        (indices_pass (reached vars ms) m is) (all_pass (reached vars ms) m ts)
        (indices_reached m bs is) (each_reached m bs f 0 ts) q.1
    all_reached m bs s (macro x t) h =
        time_reached m bs t
        (and_split (are_indices g bs (macro_indices x)) (is_timestamp g bs t)
        (and_split (is_same_sort (macro_sort x) s) _ h).1).1
    all_reached m bs s (schema k) h =
        schemas k (and_split (is_same_sort Message s) (nat_lt k g.schemas) h).1
    all_reached m bs s (diff a b) h =
        both_kept (has_sort g bs s a) (has_sort g bs s b) (passes (reached vars ms) m a)
        (passes (reached vars ms) m b) (all_reached m bs s a) (all_reached m bs s b) h
    all_reached m bs s (le t u) h =
        times_reached m bs t u (and_split (is_same_sort Boolean s) _ h).1
    all_reached m bs s (ts_eq t u) h =
        times_reached m bs t u (and_split (is_same_sort Boolean s) _ h).1
    all_reached m bs s (idx_eq i j) h =
        both_kept (is_index g bs i) (is_index g bs j) (idx_takes vars i) (idx_takes vars j)
        (index_reached bs i) (index_reached bs j) (and_split (is_same_sort Boolean s) _ h).1
    all_reached m bs s (happens t) h =
        time_reached m bs t (and_split (is_same_sort Boolean s) (is_timestamp g bs t) h).1
    all_reached m bs s (all b t) h =
        all_reached (m + 1) (b ∷ bs) Boolean t
        (and_split (is_binder_sort b) (has_sort g (b ∷ bs) Boolean t)
        (and_split (is_same_sort Boolean s) _ h).1).1
    all_reached m bs s (some b t) h =
        all_reached (m + 1) (b ∷ bs) Boolean t
        (and_split (is_binder_sort b) (has_sort g (b ∷ bs) Boolean t)
        (and_split (is_same_sort Boolean s) _ h).1).1
    all_reached m bs s (find c t a b) h =
        let inner : List Sort = replicate c Index ++ bs in
        let p = and_split (has_sort g inner Boolean t) _
        (and_split (is_same_sort Message s) _ h).1 in
        let q = and_split (has_sort g inner Message a) (has_sort g bs Message b) p.1 in
        and_both (passes (reached vars ms) (m + c) t) _ (all_reached (m + c) inner Boolean t p.0)
        (and_both (passes (reached vars ms) (m + c) a) (passes (reached vars ms) m b)
        (all_reached (m + c) inner Message a q.0) (all_reached m bs Message b q.1))

    each_reached : (m : ℕ) (bs : List Sort) (f : Kind) (k : ℕ) (ts : TermTrees)
        → have_sorts g bs f k ts ≡ true → all_pass (reached vars ms) m ts ≡ true
    each_reached m bs f k nil h = refl
    each_reached m bs f k (cons t ts) h =
        both_kept (has_sort g bs (argument_sort f k) t) (have_sorts g bs f (suc k) ts)
        (passes (reached vars ms) m t) (all_pass (reached vars ms) m ts)
        (all_reached m bs (argument_sort f k) t) (each_reached m bs f (suc k) ts) h
