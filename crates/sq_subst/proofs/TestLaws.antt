-- Two tests at once, and closedness as a test of each variable.
use Rattle.std.proofs.Common.{◌≡◌, refl, subst, ℕ, suc, ◌+◌, Bool, true, ◌&&◌, nat_lt, List}
use Rattle.std.proofs.Common.{[], ◌∷◌, arith}
use Rattle.sq_term.specs.declared.term.Idx.{Idx}
use Rattle.sq_term.specs.Syntax.{TsTree, free, bound, init, pred, action, TermTree, name, fun}
use Rattle.sq_term.specs.Syntax.{macro, schema, diff, le, ts_eq, idx_eq, happens, all, some, find}
use Rattle.sq_term.specs.Syntax.{TermTrees, nil, cons}
use Rattle.sq_term.specs.Closed.{idx_closed, indices_closed, ts_closed, is_closed, are_closed}
use Rattle.sq_subst.specs.Tests.{Tests, indices_pass, ts_passes, passes, all_pass}
use Rattle.sq_subst.proofs.LeavesLaw.{first_of_both, second_of_both}

pub and_true : {p q : Bool} → p ≡ true → q ≡ true → (p && q) ≡ true
and_true {p} {q} e f = rw e f

abbrev pub closed_tests : Tests
closed_tests =
    record {
      index = λ m i. idx_closed m i;
      free_time = λ m k. true;
      bound_time =
          λ m k. nat_lt k m;
      message = λ m k. true;
    }

abbrev pub no_tests : Tests
no_tests =
    record {
      index = λ m i. true;
      free_time = λ m k. true;
      bound_time = λ m k. true;
      message =
          λ m k. true;
    }

abbrev pub both_tests : Tests → Tests → Tests
both_tests P Q = record {
  index = λ m i. P.index m i && Q.index m i;
  free_time = λ m k. P.free_time m k && Q.free_time m k;
  bound_time = λ m k. P.bound_time m k && Q.bound_time m k;
  message = λ m k. P.message m k && Q.message m k;
}

-- ---- closedness

indices_closed-pass : (m : ℕ) (is : List Idx) → indices_closed m is ≡ true
    → indices_pass closed_tests m is ≡ true
indices_closed-pass m [] h = refl
indices_closed-pass m (i ∷ is) h =
    and_true (first_of_both _ _ h) (indices_closed-pass m is (second_of_both (idx_closed m i) _ h))

pub ts_closed-passes : (m : ℕ) (t : TsTree) → ts_closed m t ≡ true
    → ts_passes closed_tests m t ≡ true
ts_closed-passes m (free k) h = refl
ts_closed-passes m (bound k) h = h
ts_closed-passes m init h = refl
ts_closed-passes m (pred t) h = ts_closed-passes m t h
ts_closed-passes m (action n is) h = indices_closed-pass m is h

one_more : (m : ℕ) (t : TermTree) → is_closed (suc m) t ≡ true → is_closed (m + 1) t ≡ true
one_more m t h = let e : suc m ≡ m + 1 = omega arith in subst (λ k. is_closed k t ≡ true) e h

mutual
  pub is_closed-passes : (m : ℕ) (t : TermTree) → is_closed m t ≡ true
      → passes closed_tests m t ≡ true
  is_closed-passes m (name n is) h = indices_closed-pass m is h
  is_closed-passes m (fun f is ts) h =
      and_true (indices_closed-pass m is (first_of_both _ _ h))
      (are_closed-pass m ts (second_of_both (indices_closed m is) _ h))
  is_closed-passes m (macro x t) h = ts_closed-passes m t h
  is_closed-passes m (schema k) h = refl
  is_closed-passes m (diff a b) h =
      and_true (is_closed-passes m a (first_of_both _ _ h))
      (is_closed-passes m b (second_of_both (is_closed m a) _ h))
  is_closed-passes m (le t s) h =
      and_true (ts_closed-passes m t (first_of_both _ _ h))
      (ts_closed-passes m s (second_of_both (ts_closed m t) _ h))
  is_closed-passes m (ts_eq t s) h =
      and_true (ts_closed-passes m t (first_of_both _ _ h))
      (ts_closed-passes m s (second_of_both (ts_closed m t) _ h))
  is_closed-passes m (idx_eq i j) h = h
  is_closed-passes m (happens t) h = ts_closed-passes m t h
  is_closed-passes m (all s t) h = is_closed-passes (m + 1) t (one_more m t h)
  is_closed-passes m (some s t) h = is_closed-passes (m + 1) t (one_more m t h)
  is_closed-passes m (find n c a b) h =
      let rest = second_of_both (is_closed (m + n) c) _ h in
      and_true (is_closed-passes (m + n) c (first_of_both _ _ h))
      (and_true (is_closed-passes (m + n) a (first_of_both _ _ rest))
      (is_closed-passes m b (second_of_both (is_closed (m + n) a) _ rest)))

  pub are_closed-pass : (m : ℕ) (ts : TermTrees) → are_closed m ts ≡ true
      → all_pass closed_tests m ts ≡ true
  are_closed-pass m nil h = refl
  are_closed-pass m (cons t ts) h =
      and_true (is_closed-passes m t (first_of_both _ _ h))
      (are_closed-pass m ts (second_of_both (is_closed m t) _ h))

-- ---- both

-- two parts that pass both tests
pair : (p q p' q' r r' : Bool) → (p ≡ true → q ≡ true → r ≡ true)
    → (p' ≡ true → q' ≡ true → r' ≡ true) → (p && p') ≡ true → (q && q') ≡ true → (r && r') ≡ true
pair p q p' q' r r' f g h k =
    and_true {p = r} {q = r'} (f (first_of_both p p' h) (first_of_both q q' k))
    (g (second_of_both p p' h) (second_of_both q q' k))

module _ (P Q : Tests) where
  abbrev R : Tests
  R = both_tests P Q

  each : (p q : Bool) → p ≡ true → q ≡ true → (p && q) ≡ true
  each p q h k = and_true {p = p} {q = q} h k

  indices_both : (m : ℕ) (is : List Idx) → indices_pass P m is ≡ true → indices_pass Q m is ≡ true
      → indices_pass R m is ≡ true
  indices_both m [] h g = refl
  indices_both m (i ∷ is) h g =
      pair (P.index m i) (Q.index m i) (indices_pass P m is) (indices_pass Q m is)
      (P.index m i && Q.index m i) (indices_pass R m is)
      (each (P.index m i) (Q.index m i)) (indices_both m is) h g

  ts_both : (m : ℕ) (t : TsTree) → ts_passes P m t ≡ true → ts_passes Q m t ≡ true
      → ts_passes R m t ≡ true
  ts_both m (free k) h g = each (P.free_time m k) (Q.free_time m k) h g
  ts_both m (bound k) h g = each (P.bound_time m k) (Q.bound_time m k) h g
  ts_both m init h g = refl
  ts_both m (pred t) h g = ts_both m t h g
  ts_both m (action n is) h g = indices_both m is h g

  mutual
    pub passes_both : (m : ℕ) (t : TermTree) → passes P m t ≡ true → passes Q m t ≡ true
        → passes R m t ≡ true
    passes_both m (name n is) h g = indices_both m is h g
    passes_both m (fun f is ts) h g =
        pair (indices_pass P m is) (indices_pass Q m is) (all_pass P m ts) (all_pass Q m ts)
        (indices_pass R m is) (all_pass R m ts) (indices_both m is) (all_pass_both m ts) h g
    passes_both m (macro x t) h g = ts_both m t h g
    passes_both m (schema k) h g = each (P.message m k) (Q.message m k) h g
    passes_both m (diff a b) h g =
        pair (passes P m a) (passes Q m a) (passes P m b) (passes Q m b) (passes R m a)
        (passes R m b) (passes_both m a) (passes_both m b) h g
    passes_both m (le t s) h g =
        pair (ts_passes P m t) (ts_passes Q m t) (ts_passes P m s) (ts_passes Q m s)
        (ts_passes R m t) (ts_passes R m s) (ts_both m t) (ts_both m s) h g
    passes_both m (ts_eq t s) h g =
        pair (ts_passes P m t) (ts_passes Q m t) (ts_passes P m s) (ts_passes Q m s)
        (ts_passes R m t) (ts_passes R m s) (ts_both m t) (ts_both m s) h g
    passes_both m (idx_eq i j) h g =
        pair (P.index m i) (Q.index m i) (P.index m j) (Q.index m j) (P.index m i && Q.index m i)
        (P.index m j && Q.index m j)
        (each (P.index m i) (Q.index m i)) (each (P.index m j) (Q.index m j)) h g
    passes_both m (happens t) h g = ts_both m t h g
    passes_both m (all s t) h g = passes_both (m + 1) t h g
    passes_both m (some s t) h g = passes_both (m + 1) t h g
    passes_both m (find n c a b) h g =
        pair (passes P (m + n) c) (passes Q (m + n) c) (passes P (m + n) a && passes P m b)
        (passes Q (m + n) a && passes Q m b) (passes R (m + n) c)
        (passes R (m + n) a && passes R m b)
        (passes_both (m + n) c)
        (pair (passes P (m + n) a) (passes Q (m + n) a) (passes P m b) (passes Q m b)
        (passes R (m + n) a) (passes R m b) (passes_both (m + n) a) (passes_both m b)) h g

    all_pass_both : (m : ℕ) (ts : TermTrees) → all_pass P m ts ≡ true → all_pass Q m ts ≡ true
        → all_pass R m ts ≡ true
    all_pass_both m nil h g = refl
    all_pass_both m (cons t ts) h g =
        pair (passes P m t) (passes Q m t) (all_pass P m ts) (all_pass Q m ts) (passes R m t)
        (all_pass R m ts) (passes_both m t) (all_pass_both m ts) h g

-- what is asked of no variable holds
pub indices_free : (m : ℕ) (is : List Idx) → indices_pass no_tests m is ≡ true
indices_free m [] = refl
indices_free m (i ∷ is) = indices_free m is

pub ts_free : (m : ℕ) (t : TsTree) → ts_passes no_tests m t ≡ true
ts_free m (free k) = refl
ts_free m (bound k) = refl
ts_free m init = refl
ts_free m (pred t) = ts_free m t
ts_free m (action n is) = indices_free m is

mutual
  pub passes_none : (m : ℕ) (t : TermTree) → passes no_tests m t ≡ true
  passes_none m (name n is) = indices_free m is
  passes_none m (fun f is ts) = and_true (indices_free m is) (all_pass_none m ts)
  passes_none m (macro x t) = ts_free m t
  passes_none m (schema k) = refl
  passes_none m (diff a b) = and_true (passes_none m a) (passes_none m b)
  passes_none m (le t s) = and_true (ts_free m t) (ts_free m s)
  passes_none m (ts_eq t s) = and_true (ts_free m t) (ts_free m s)
  passes_none m (idx_eq i j) = refl
  passes_none m (happens t) = ts_free m t
  passes_none m (all s t) = passes_none (m + 1) t
  passes_none m (some s t) = passes_none (m + 1) t
  passes_none m (find n c a b) =
      and_true (passes_none (m + n) c) (and_true (passes_none (m + n) a) (passes_none m b))

  all_pass_none : (m : ℕ) (ts : TermTrees) → all_pass no_tests m ts ≡ true
  all_pass_none m nil = refl
  all_pass_none m (cons t ts) = and_true (passes_none m t) (all_pass_none m ts)
