-- A well-sorted term reaches no further than the binders around it, and one that needs none is
-- well-sorted below any.
use Rattle.std.proofs.Common.{◌≡◌, ℕ, zero, suc, ◌+◌, ◌<◌, refl, sym, ap, subst, List, [], ◌∷◌}
use Rattle.std.proofs.Common.{◌++◌, length, true, false, nat_lt, arith}
use Rattle.std.specs.Prelude.{slice_get, replicate}
use Rattle.std.proofs.lemmas.Bool.Decides.{Decides-ltb}
use Rattle.sq_base.specs.declared.sort.Sort.{Sort}
use Rattle.sq_base.specs.declared.sort.Sort.TheVariants.{Message, Boolean, Index, Timestamp}
use Rattle.sq_term.specs.declared.term.Idx.{Idx}
use Rattle.sq_term.specs.declared.term.Idx.TheVariants.{Free, Bound}
use Rattle.sq_term.specs.Macros.{macro_indices}
use Rattle.sq_term.specs.Closed.{idx_closed, indices_closed, ts_closed, is_closed, are_closed}
use Rattle.sq_term.specs.Measure.{count_terms}
use Rattle.sq_term.specs.Pure.{is_binder_sort}
use Rattle.sq_term.specs.Symbols.{Kind, function_number}
use Rattle.sq_term.specs.Syntax.{TsTree, free, bound, init, pred, action, TermTree, name, fun}
use Rattle.sq_term.specs.Syntax.{macro, schema, diff, le, ts_eq, idx_eq, happens, all, some, find}
use Rattle.sq_term.specs.Syntax.{TermTrees, nil, cons}
use Rattle.sq_term.specs.TreeEquality.{is_same_sort}
use Rattle.sq_term.proofs.BoolTests.{and_split}
use Rattle.sq_typing.specs.Typing.{Signature, has_sort_at, has_count_at, is_index, are_indices}
use Rattle.sq_typing.specs.Typing.{is_timestamp, applies, result_sort, argument_sort, macro_sort}
use Rattle.sq_typing.specs.Typing.{has_sort, have_sorts}
use Rattle.sq_subst.specs.Leaves.{keeping, map_term}
use Rattle.sq_subst.proofs.TestLaws.{no_tests, passes_none}
use Rattle.sq_subst.proofs.Fusion.{kept}
use Rattle.sq_formula.proofs.KeptSorts.{no_some, both_kept, sort_kept}
use Rattle.sq_formula.proofs.Opened.{sort_at-more}

place-below : (bs : List Sort) (k : ℕ) (s : Sort) → has_sort_at bs k s ≡ true → k < length bs
place-below [] k s e = let z : false ≡ true = e in absurd (cc)
place-below (b ∷ bs) zero s e = omega arith
place-below (b ∷ bs) (suc k) s e = let h : k < length bs = place-below bs k s e in omega arith

within : (bs : List Sort) (k : ℕ) (s : Sort) → has_sort_at bs k s ≡ true
    → nat_lt k (length bs) ≡ true
within bs k s e = (Decides-ltb k (length bs)).1 (place-below bs k s e)

below-indices : (c : ℕ) (bs : List Sort) → length (replicate c Index ++ bs) ≡ length bs + c
below-indices zero bs = omega arith
below-indices (suc c) bs = let h : length (replicate c Index ++ bs) ≡ length bs + c =
    below-indices c bs in omega arith

module _ (g : Signature) where
  index-closed : (bs : List Sort) (i : Idx) → is_index g bs i ≡ true
      → idx_closed (length bs) i ≡ true
  index-closed bs (Free k) e = refl
  index-closed bs (Bound k) e = within bs k Index e

  indices-closed : (bs : List Sort) (is : List Idx) → are_indices g bs is ≡ true
      → indices_closed (length bs) is ≡ true
  indices-closed bs [] e = refl
  indices-closed bs (i ∷ is) e =
      both_kept (is_index g bs i) (are_indices g bs is) (idx_closed (length bs) i) _
      (index-closed bs i) (indices-closed bs is) e

  time-closed : (bs : List Sort) (t : TsTree) → is_timestamp g bs t ≡ true
      → ts_closed (length bs) t ≡ true
  time-closed bs (free k) e = refl
  time-closed bs (bound k) e = within bs k Timestamp e
  time-closed bs init e = refl
  time-closed bs (pred t) e = time-closed bs t e
  time-closed bs (action a is) e =
      indices-closed bs is (and_split (has_count_at g.actions a (length is)) _ e).1

  mutual
    term-closed : (bs : List Sort) (s : Sort) (t : TermTree) → has_sort g bs s t ≡ true
        → is_closed (length bs) t ≡ true
    term-closed bs s (name n is) e =
        indices-closed bs is
        (and_split (has_count_at g.names n (length is)) _
        (and_split (is_same_sort Message s) _ e).1).1
    term-closed bs s (fun f is ts) e =
        let p = and_split
        (is_same_sort (result_sort (slice_get g.funs (function_number f))) s) _ e in
        let q = and_split
        (applies (slice_get g.funs (function_number f)) (length is) (count_terms ts)) _ p.1 in
        both_kept (are_indices g bs is) (have_sorts g bs f 0 ts) (indices_closed (length bs) is)
        (are_closed (length bs) ts) (indices-closed bs is) (terms-closed bs f 0 ts) q.1
    term-closed bs s (macro m t) e =
        both_kept (are_indices g bs (macro_indices m)) (is_timestamp g bs t)
        (indices_closed (length bs) (macro_indices m)) (ts_closed (length bs) t)
        (indices-closed bs (macro_indices m)) (time-closed bs t)
        (and_split (is_same_sort (macro_sort m) s) _ e).1
    term-closed bs s (schema k) e = refl
    term-closed bs s (diff t u) e =
        both_kept (has_sort g bs s t) (has_sort g bs s u) (is_closed (length bs) t) _
        (term-closed bs s t) (term-closed bs s u) e
    term-closed bs s (le t u) e =
        both_kept (is_timestamp g bs t) (is_timestamp g bs u) (ts_closed (length bs) t) _
        (time-closed bs t) (time-closed bs u) (and_split (is_same_sort Boolean s) _ e).1
    term-closed bs s (ts_eq t u) e =
        both_kept (is_timestamp g bs t) (is_timestamp g bs u) (ts_closed (length bs) t) _
        (time-closed bs t) (time-closed bs u) (and_split (is_same_sort Boolean s) _ e).1
    term-closed bs s (idx_eq i j) e =
        both_kept (is_index g bs i) (is_index g bs j) (idx_closed (length bs) i) _
        (index-closed bs i) (index-closed bs j) (and_split (is_same_sort Boolean s) _ e).1
    term-closed bs s (happens t) e = time-closed bs t (and_split (is_same_sort Boolean s) _ e).1
    term-closed bs s (all b t) e =
        term-closed (b ∷ bs) Boolean t
        (and_split (is_binder_sort b) _ (and_split (is_same_sort Boolean s) _ e).1).1
    term-closed bs s (some b t) e =
        term-closed (b ∷ bs) Boolean t
        (and_split (is_binder_sort b) _ (and_split (is_same_sort Boolean s) _ e).1).1
    term-closed bs s (find c t u v) e =
        both_kept (has_sort g (replicate c Index ++ bs) Boolean t) _ (is_closed (length bs + c) t) _
        (λ h. subst (λ n. is_closed n t ≡ true) (below-indices c bs)
        (term-closed (replicate c Index ++ bs) Boolean t h))
        (both_kept (has_sort g (replicate c Index ++ bs) Message u) (has_sort g bs Message v)
        (is_closed (length bs + c) u) _
        (λ h. subst (λ n. is_closed n u ≡ true) (below-indices c bs)
        (term-closed (replicate c Index ++ bs) Message u h)) (term-closed bs Message v))
        (and_split (is_same_sort Message s) _ e).1

    terms-closed : (bs : List Sort) (f : Kind) (k : ℕ) (ts : TermTrees)
        → have_sorts g bs f k ts ≡ true → are_closed (length bs) ts ≡ true
    terms-closed bs f k nil e = refl
    terms-closed bs f k (cons t ts) e =
        both_kept (has_sort g bs (argument_sort f k) t) (have_sorts g bs f (suc k) ts)
        (is_closed (length bs) t) _ (term-closed bs (argument_sort f k) t)
        (terms-closed bs f (suc k) ts) e

  -- without binders around
  pub sorted-closed : (s : Sort) (t : TermTree) → has_sort g [] s t ≡ true → is_closed 0 t ≡ true
  sorted-closed s t e = term-closed [] s t e

  -- ---- below more binders

  abbrev Further : List Sort → ℕ → List Sort → List Sort → Type 0
  Further more m bs cs = cs ≡ bs ++ more

  place-further : (more bs cs : List Sort) (k : ℕ) (s : Sort) → cs ≡ bs ++ more
      → has_sort_at bs k s ≡ true → has_sort_at cs k s ≡ true
  place-further more bs cs k s r e =
      subst (λ xs. has_sort_at xs k s ≡ true) (sym r) (sort_at-more bs more k s e)

  index-further : (more : List Sort) (m : ℕ) (bs cs : List Sort) (i : Idx) → cs ≡ bs ++ more
      → is_index g bs i ≡ true → is_index g cs i ≡ true
  index-further more m bs cs (Free k) r e = e
  index-further more m bs cs (Bound k) r e = place-further more bs cs k Index r e

  pub sorted-below : (more : List Sort) (s : Sort) (t : TermTree) → has_sort g [] s t ≡ true
      → has_sort g more s t ≡ true
  sorted-below more s t e =
      let kept_sort : has_sort g more s (map_term keeping 0 t) ≡ true =
      sort_kept keeping g g.schemas g.vars (Further more) (λ m bs cs b r. ap (λ xs. b ∷ xs) r)
      (index-further more)
      (λ m k bs cs r q. q) (λ m k bs cs r q. place-further more bs cs k Timestamp r q)
      (λ m k bs cs r q. q) (λ m bs cs t u r q p. no_some u p)
      (λ m bs cs s t u r q p. no_some u p) t 0 [] more s refl e in
      subst (λ u. has_sort g more s u ≡ true)
      (kept keeping no_tests (λ m i q. refl) (λ m k q. refl) (λ m k q. refl) (λ m k q. refl) 0 t
      (passes_none 0 t)) kept_sort
