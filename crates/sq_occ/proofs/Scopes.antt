-- What stands in an entry of a body speaks of the action's indices and of the binders above it
-- alone.
use Rattle.std.proofs.Common.{◌≡◌, refl, sym, ap, ◌∙◌, subst, ℕ, zero, suc, ◌+◌, ◌<◌, List, [], ◌∷◌}
use Rattle.std.proofs.Common.{◌++◌, length, map, replicate, Bool, true, false, if◌then◌else◌, ◌&&◌}
use Rattle.std.proofs.Common.{◌==◌}
use Rattle.std.proofs.Common.{nat_lt, arith, length-append, slice_get}
use Rattle.std.proofs.lemmas.Bool.Decides.{nat_tests}
use Rattle.sq_base.specs.declared.sort.Sort.{Sort}
use Rattle.sq_base.specs.declared.sort.Sort.TheVariants.{Message, Boolean, Index, Timestamp}
use Rattle.sq_term.specs.declared.signature.FunDecl.{FunDecl}
use Rattle.sq_term.specs.declared.term.Idx.{Idx}
use Rattle.sq_term.specs.declared.term.Idx.TheVariants.{Free, Bound}
use Rattle.sq_term.specs.declared.term.Side.{Side}
use Rattle.sq_term.specs.declared.term.Side.TheVariants.{Left, Right, Both}
use Rattle.sq_term.specs.Lists.{Each}
use Rattle.sq_term.specs.Measure.{count_terms}
use Rattle.sq_term.specs.Pure.{is_binder_sort}
use Rattle.sq_term.specs.Signatures.{function_role, is_hash, is_keyed, is_pk, is_equality}
use Rattle.sq_term.specs.Symbols.{Kind, function_number}
use Rattle.sq_term.specs.Syntax.{TsTree, free, bound, init, pred, action, TermTree, name, fun}
use Rattle.sq_term.specs.Syntax.{macro, schema, diff, le, ts_eq, idx_eq, happens, all, some, find}
use Rattle.sq_term.specs.Syntax.{TermTrees, nil, cons}
use Rattle.sq_term.specs.TreeEquality.{is_same_sort}
use Rattle.sq_term.proofs.BoolTests.{and_split, and_both}
use Rattle.sq_term.proofs.Members.{each-append, each_none, each_cons, each_single}
use Rattle.sq_typing.specs.Typing.{Signature, has_sort_at, has_count_at, is_index, are_indices}
use Rattle.sq_typing.specs.Typing.{is_timestamp, macro_sort, applies, result_sort, argument_sort}
use Rattle.sq_typing.specs.Typing.{has_sort, have_sorts}
use Rattle.sq_subst.specs.Leaves.{on_side, map_ts, map_term, map_terms}
use Rattle.sq_subst.specs.Projection.{projecting}
use Rattle.sq_subst.specs.Tests.{Tests, indices_pass, ts_passes, passes, all_pass}
use Rattle.sq_occ.specs.Entries.{RoleTree, bare, public, key, OccTree, place, with_indices}
use Rattle.sq_occ.specs.Walks.{name_args, is_keyed_by, is_only_name, first_term}
use Rattle.sq_occ.specs.Walks.{first_args, second_args, walk, walk_first, walk_all}

-- an index of r free ones or of a binder; no free timestamp and no schema variable
abbrev pub own_index : ℕ → ℕ → Idx → Bool
own_index r m (Free k) = nat_lt k r
own_index r m (Bound k) = nat_lt k m

abbrev pub own_scope : ℕ → Tests
own_scope r = record {
  index = own_index r;
  free_time = λ m k. false;
  bound_time = λ m k. nat_lt k m;
  message = λ m k. false;
}

is_below : (k n : ℕ) → k < n → nat_lt k n ≡ true
is_below k n h = grind (arith, nat_tests)

pub sort_below : (bs : List Sort) (k : ℕ) (s : Sort) → has_sort_at bs k s ≡ true → k < length bs
sort_below [] k s h = absurd (let f : false ≡ true = h in cc)
sort_below (b ∷ bs) zero s h = omega arith
sort_below (b ∷ bs) (suc k) s h = let l : k < length bs = sort_below bs k s h in omega arith

pub indices_alone : (r k : ℕ) → has_sort_at (replicate r Index) k Timestamp ≡ true → false ≡ true
indices_alone zero k h = h
indices_alone (suc r) zero h = h
indices_alone (suc r) (suc k) h = indices_alone r k h

pub replicate-long : {A : Type 0} (c : ℕ) (x : A) → length (replicate c x) ≡ c
replicate-long zero x = refl
replicate-long (suc c) x = ap suc (replicate-long c x)

-- a well-sorted body, and each side of it, stays in that scope
module _ (g : Signature) (r : ℕ) (vars : g.vars ≡ replicate r Index) (closed : g.schemas ≡ 0)
    (side : Side) where
  index_own : (bs : List Sort) (m : ℕ) (i : Idx) → length bs ≡ m → is_index g bs i ≡ true
      → own_index r m i ≡ true
  index_own bs m (Free k) e h =
      let l : k < length (replicate r Index) =
      sort_below (replicate r Index) k Index (subst (λ v. has_sort_at v k Index ≡ true) vars h) in
      is_below k r (subst (λ z. k < z) (replicate-long r Index) l)
  index_own bs m (Bound k) e h =
      is_below k m (subst (λ z. k < z) e (sort_below bs k Index h))

  indices_own : (bs : List Sort) (m : ℕ) (is : List Idx) → length bs ≡ m
      → are_indices g bs is ≡ true → indices_pass (own_scope r) m (map (λ i. i) is) ≡ true
  indices_own bs m [] e h = refl
  indices_own bs m (i ∷ is) e h =
      let p = and_split (is_index g bs i) (are_indices g bs is) h in
      and_both _ _ (index_own bs m i e p.0) (indices_own bs m is e p.1)

  time_own : (bs : List Sort) (m : ℕ) (t : TsTree) → length bs ≡ m → is_timestamp g bs t ≡ true
      → ts_passes (own_scope r) m (map_ts (projecting side) m t) ≡ true
  time_own bs m (free k) e h =
      indices_alone r k (subst (λ v. has_sort_at v k Timestamp ≡ true) vars h)
  time_own bs m (bound k) e h = is_below k m (subst (λ z. k < z) e (sort_below bs k Timestamp h))
  time_own bs m init e h = refl
  time_own bs m (pred t) e h = time_own bs m t e h
  time_own bs m (action n is) e h =
      indices_own bs m is e (and_split (has_count_at g.actions n (length is)) _ h).1

  one_side_own : (o : Side) (m : ℕ) (x y : TermTree) → passes (own_scope r) m x ≡ true
      → passes (own_scope r) m y ≡ true → passes (own_scope r) m (on_side o x y) ≡ true
  one_side_own Left m x y h k = h
  one_side_own Right m x y h k = k
  one_side_own Both m x y h k = and_both _ _ h k

  two_times : (bs : List Sort) (m : ℕ) (s : Sort) (t u : TsTree) → length bs ≡ m
      → (is_same_sort Boolean s && (is_timestamp g bs t && is_timestamp g bs u)) ≡ true
      → (ts_passes (own_scope r) m (map_ts (projecting side) m t)
      && ts_passes (own_scope r) m (map_ts (projecting side) m u)) ≡ true
  two_times bs m s t u e h =
      let p = and_split (is_timestamp g bs t) (is_timestamp g bs u)
      (and_split (is_same_sort Boolean s) _ h).1 in
      and_both _ _ (time_own bs m t e p.0) (time_own bs m u e p.1)

  no_schema : (k : ℕ) → nat_lt k g.schemas ≡ true → false ≡ true
  no_schema k h =
      let l : nat_lt k 0 ≡ true = subst (λ z. nat_lt k z ≡ true) closed h in
      absurd (let b : k < 0 = grind (arith, nat_tests) in omega arith)

  mutual
    pub sorted_own : (x : TermTree) (bs : List Sort) (m : ℕ) (s : Sort) → length bs ≡ m
        → has_sort g bs s x ≡ true
        → passes (own_scope r) m (map_term (projecting side) m x) ≡ true
    sorted_own (name n is) bs m s e h =
        indices_own bs m is e
        (and_split (has_count_at g.names n (length is)) _
        (and_split (is_same_sort Message s) _ h).1).1
    sorted_own (fun f is ts) bs m s e h =
        let p = and_split (are_indices g bs is) (have_sorts g bs f 0 ts)
        (and_split (applies (slice_get g.funs (function_number f)) (length is) (count_terms ts)) _
        (and_split (is_same_sort (result_sort (slice_get g.funs (function_number f))) s) _
        h).1).1 in
        and_both _ _ (indices_own bs m is e p.0) (all_sorted_own ts bs m f 0 e p.1)
    sorted_own (macro mac t) bs m s e h =
        time_own bs m t e (and_split (is_same_sort (macro_sort mac) s) _ h).1
    sorted_own (schema k) bs m s e h =
        no_schema k (and_split (is_same_sort Message s) _ h).1
    sorted_own (diff x y) bs m s e h =
        let p = and_split (has_sort g bs s x) (has_sort g bs s y) h in
        one_side_own side m (map_term (projecting side) m x) (map_term (projecting side) m y)
        (sorted_own x bs m s e p.0) (sorted_own y bs m s e p.1)
    sorted_own (le t u) bs m s e h = two_times bs m s t u e h
    sorted_own (ts_eq t u) bs m s e h = two_times bs m s t u e h
    sorted_own (idx_eq i j) bs m s e h =
        let p = and_split (is_index g bs i) (is_index g bs j)
        (and_split (is_same_sort Boolean s) _ h).1 in
        and_both _ _ (index_own bs m i e p.0) (index_own bs m j e p.1)
    sorted_own (happens t) bs m s e h =
        time_own bs m t e (and_split (is_same_sort Boolean s) _ h).1
    sorted_own (all o body) bs m s e h =
        sorted_own body (o ∷ bs) (m + 1) Boolean (omega (arith, e))
        (and_split (is_binder_sort o) _ (and_split (is_same_sort Boolean s) _ h).1).1
    sorted_own (some o body) bs m s e h =
        sorted_own body (o ∷ bs) (m + 1) Boolean (omega (arith, e))
        (and_split (is_binder_sort o) _ (and_split (is_same_sort Boolean s) _ h).1).1
    sorted_own (find c test found other) bs m s e h =
        let long : length (replicate c Index ++ bs) ≡ m + c =
        omega (arith, length-append (replicate c Index) bs, replicate-long c Index, e) in
        let p = and_split (has_sort g (replicate c Index ++ bs) Boolean test) _
        (and_split (is_same_sort Message s) _ h).1 in
        let q = and_split (has_sort g (replicate c Index ++ bs) Message found)
        (has_sort g bs Message other) p.1 in
        and_both _ _ (sorted_own test (replicate c Index ++ bs) (m + c) Boolean long p.0)
        (and_both _ _ (sorted_own found (replicate c Index ++ bs) (m + c) Message long q.0)
        (sorted_own other bs m Message e q.1))

    all_sorted_own : (ts : TermTrees) (bs : List Sort) (m : ℕ) (f : Kind) (k : ℕ) → length bs ≡ m
        → have_sorts g bs f k ts ≡ true
        → all_pass (own_scope r) m (map_terms (projecting side) m ts) ≡ true
    all_sorted_own nil bs m f k e h = refl
    all_sorted_own (cons t ts) bs m f k e h =
        let p = and_split (has_sort g bs (argument_sort f k) t) (have_sorts g bs f (suc k) ts) h in
        and_both _ _ (sorted_own t bs m (argument_sort f k) e p.0)
        (all_sorted_own ts bs m f (suc k) e p.1)

-- ---- entries pass the tests that the term passes

pub with_indices-length : (c : ℕ) (b : List Sort) → length (with_indices c b) ≡ c + length b
with_indices-length zero b = omega arith
with_indices-length (suc c) b = with_indices-length c (Index ∷ b) ∙ omega arith

each_if : {A : Type 0} (c : Bool) (P : A → Type 0) (xs ys : List A) → Each P xs → Each P ys
    → Each P (if c then xs else ys)
each_if true P xs ys h k = h
each_if false P xs ys h k = k

module _ (T : Tests) where
  abbrev pub RolePasses : ℕ → RoleTree → Type 0
  RolePasses d bare = Unit {0}
  RolePasses d public = Unit {0}
  RolePasses d (key f m test) = passes T d m ≡ true

  abbrev pub EntryPasses : OccTree → Type 0
  EntryPasses u =
      (indices_pass T (length u.bound) u.args ≡ true) × RolePasses (length u.bound) u.role

  name_args-pass : (m : ℕ) (t : TermTree) → passes T m t ≡ true
      → indices_pass T m (name_args t) ≡ true
  name_args-pass m (name k is) h = h
  name_args-pass m _ h = refl

  first_args-pass : (m : ℕ) (ts : TermTrees) → all_pass T m ts ≡ true
      → indices_pass T m (first_args ts) ≡ true
  first_args-pass m nil h = refl
  first_args-pass m (cons t ts) h = name_args-pass m t (and_split (passes T m t) _ h).0

  second_args-pass : (m : ℕ) (ts : TermTrees) → all_pass T m ts ≡ true
      → indices_pass T m (second_args ts) ≡ true
  second_args-pass m nil h = refl
  second_args-pass m (cons t ts) h = first_args-pass m ts (and_split (passes T m t) _ h).1

  first_term-passes : (m : ℕ) (ts : TermTrees) → all_pass T m ts ≡ true
      → passes T m (first_term ts) ≡ true
  first_term-passes m nil h = refl
  first_term-passes m (cons t ts) h = (and_split (passes T m t) _ h).0

  module _ (funs : List FunDecl) (n : ℕ) where
    abbrev direct : List Sort → Bool → TermTree → List OccTree
    direct = walk funs n (λ b m t. []) (λ b k. [])

    at_depth : (b : List Sort) (m : ℕ) (is : List Idx) (o : RoleTree) → length b ≡ m
        → indices_pass T m is ≡ true → RolePasses m o → EntryPasses (place n is o b)
    at_depth b m is o e h k = (
      subst (λ d. indices_pass T d is ≡ true) (sym e) h,
      subst (λ d. RolePasses d o) (sym e) k,
    )

    mutual
      pub walk_passes : (x : TermTree) (b : List Sort) (m : ℕ) (side : Bool) → length b ≡ m
          → passes T m x ≡ true → Each EntryPasses (walk funs n (λ b m t. []) (λ b k. []) b side x)
      walk_passes (name k is) b m side e h =
          each_if (k == n) EntryPasses (place n is bare b ∷ []) []
          (each_single (place n is bare b) EntryPasses (at_depth b m is bare e h tt))
          (each_none EntryPasses)
      walk_passes (fun f is ts) b m side e h =
          let p = and_split (indices_pass T m is) (all_pass T m ts) h in
          let role : RoleTree = key f (first_term ts) (side && is_hash (function_role funs f)) in
          each_if (is_keyed (function_role funs f) && is_keyed_by n ts) EntryPasses
          (place n (second_args ts) role b ∷ walk_first funs n (λ b m t. []) (λ b k. []) b ts)
          (if is_pk (function_role funs f) && is_only_name n ts
          then place n (first_args ts) public b ∷ []
          else walk_all funs n (λ b m t. []) (λ b k. []) b (is_equality f) ts)
          (each_cons (place n (second_args ts) role b) _ EntryPasses
          (at_depth b m (second_args ts) role e (second_args-pass m ts p.1)
          (first_term-passes m ts p.1))
          (walk_first-passes ts b m e p.1))
          (each_if (is_pk (function_role funs f) && is_only_name n ts) EntryPasses
          (place n (first_args ts) public b ∷ [])
          (walk_all funs n (λ b m t. []) (λ b k. []) b (is_equality f) ts)
          (each_single (place n (first_args ts) public b) EntryPasses
          (at_depth b m (first_args ts) public e (first_args-pass m ts p.1) tt))
          (walk_all-passes ts b m (is_equality f) e p.1))
      walk_passes (macro mac t) b m side e h = each_none EntryPasses
      walk_passes (schema k) b m side e h = each_none EntryPasses
      walk_passes (diff x y) b m side e h =
          let p = and_split (passes T m x) (passes T m y) h in
          each-append (direct b side x) (direct b side y) EntryPasses
          (walk_passes x b m side e p.0) (walk_passes y b m side e p.1)
      walk_passes (le t u) b m side e h = each_none EntryPasses
      walk_passes (ts_eq t u) b m side e h = each_none EntryPasses
      walk_passes (idx_eq i j) b m side e h = each_none EntryPasses
      walk_passes (happens t) b m side e h = each_none EntryPasses
      walk_passes (all o body) b m side e h =
          walk_passes body (o ∷ b) (m + 1) false (omega (arith, e)) h
      walk_passes (some o body) b m side e h =
          walk_passes body (o ∷ b) (m + 1) false (omega (arith, e)) h
      walk_passes (find c test found other) b m side e h =
          let long : length (with_indices c b) ≡ m + c =
          omega (arith, with_indices-length c b, e) in
          let p = and_split (passes T (m + c) test) _ h in
          let q = and_split (passes T (m + c) found) (passes T m other) p.1 in
          each-append (direct (with_indices c b) false test)
          (direct (with_indices c b) false found ++ direct b false other) EntryPasses
          (walk_passes test (with_indices c b) (m + c) false long p.0)
          (each-append (direct (with_indices c b) false found) (direct b false other) EntryPasses
          (walk_passes found (with_indices c b) (m + c) false long q.0)
          (walk_passes other b m false e q.1))

      walk_first-passes : (ts : TermTrees) (b : List Sort) (m : ℕ) → length b ≡ m
          → all_pass T m ts ≡ true
          → Each EntryPasses (walk_first funs n (λ b m t. []) (λ b k. []) b ts)
      walk_first-passes nil b m e h = each_none EntryPasses
      walk_first-passes (cons t ts) b m e h =
          walk_passes t b m false e (and_split (passes T m t) _ h).0

      walk_all-passes : (ts : TermTrees) (b : List Sort) (m : ℕ) (side : Bool) → length b ≡ m
          → all_pass T m ts ≡ true
          → Each EntryPasses (walk_all funs n (λ b m t. []) (λ b k. []) b side ts)
      walk_all-passes nil b m side e h = each_none EntryPasses
      walk_all-passes (cons t ts) b m side e h =
          let p = and_split (passes T m t) (all_pass T m ts) h in
          each-append (direct b side t) _ EntryPasses (walk_passes t b m side e p.0)
          (walk_all-passes ts b m side e p.1)
