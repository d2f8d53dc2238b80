-- Each entry of a well-sorted term is in scope.
use Rattle.std.proofs.Common.{◌≡◌, refl, sym, ap, ◌∙◌, subst, ℕ, zero, suc, ◌+◌, ◌-◌, ◌<◌, List, []}
use Rattle.std.proofs.Common.{◌∷◌, ◌++◌, map, length, replicate, Bool, true, false, if◌then◌else◌}
use Rattle.std.proofs.Common.{◌&&◌}
use Rattle.std.proofs.Common.{◌==◌, nat_lt, Some, None, arith, slice_get}
use Rattle.std.specs.List.{list_all}
use Rattle.std.proofs.lemmas.Bool.{eq-eqb}
use Rattle.std.proofs.lemmas.Bool.Decides.{nat_tests}
use Rattle.sq_base.specs.declared.sort.Sort.{Sort}
use Rattle.sq_base.specs.declared.sort.Sort.TheVariants.{Message, Boolean, Index, Timestamp}
use Rattle.sq_term.specs.declared.signature.FunDecl.{FunDecl}
use Rattle.sq_term.specs.declared.term.Idx.{Idx}
use Rattle.sq_term.specs.declared.term.Idx.TheVariants.{Free, Bound}
use Rattle.sq_term.specs.declared.term.Macro.{Macro}
use Rattle.sq_term.specs.declared.term.Macro.TheVariants.{Input, Output, Cond, Exec, Frame}
use Rattle.sq_term.specs.declared.term.Side.TheVariants.{Both}
use Rattle.sq_term.specs.Lists.{Each}
use Rattle.sq_term.specs.Measure.{count_terms}
use Rattle.sq_term.specs.Pure.{is_binder_sort}
use Rattle.sq_term.specs.Signatures.{function_role, is_hash, is_keyed, is_pk, is_equality}
use Rattle.sq_term.specs.Symbols as kind
use Rattle.sq_term.specs.Symbols.{Kind, declared, function_number}
use Rattle.sq_term.specs.Syntax.{TsTree, free, bound, init, pred, action, TermTree, name, fun}
use Rattle.sq_term.specs.Syntax.{macro, schema, diff, le, ts_eq, idx_eq, happens, all, some, find}
use Rattle.sq_term.specs.Syntax.{TermTrees, nil, cons}
use Rattle.sq_term.specs.Systems.{SystemTree, ActionTree}
use Rattle.sq_term.specs.TreeEquality.{is_same_sort}
use Rattle.sq_term.proofs.BoolTests.{and_split, and_both}
use Rattle.sq_term.proofs.Members.{each-append, each-map, each_none, each_cons, each_single}
use Rattle.sq_typing.specs.Functions.{are_functions}
use Rattle.sq_typing.specs.Typing.{Signature, has_sort_at, has_count_at, is_index, are_indices}
use Rattle.sq_typing.specs.Typing.{is_timestamp, macro_sort, applies, result_sort, argument_sort}
use Rattle.sq_typing.specs.Typing.{has_sort, have_sorts}
use Rattle.sq_typing.proofs.Formulas.{application-sorted}
use Rattle.sq_system.specs.Scopes.{signature_of}
use Rattle.sq_system.specs.Statements.{EnvTree}
use Rattle.sq_system.specs.WellFormed.{is_body, are_bodies, is_well_sorted}
use Rattle.sq_subst.specs.Leaves.{map_term}
use Rattle.sq_subst.specs.Projection.{projected}
use Rattle.sq_subst.specs.Renaming.{bound_index, binding}
use Rattle.sq_formula.proofs.KeptSorts.{no_some, sort_kept}
use Rattle.sq_formula.proofs.SideSorts.{side-sort}
use Rattle.sq_occ.specs.Entries.{RoleTree, bare, public, key, OccTree, place, with_indices}
use Rattle.sq_occ.specs.Walks.{name_args, is_keyed_by, is_only_name, first_term}
use Rattle.sq_occ.specs.Walks.{first_args, second_args, walk, walk_first, walk_all}
use Rattle.sq_occ.specs.Searches.{binders, lifted_idx, lifted_ts, reach, bound_role, in_action}
use Rattle.sq_occ.specs.Searches.{body_places, action_places, in_actions, side_places}
use Rattle.sq_occ.specs.Listed.{side_of}
use Rattle.sq_occ.specs.Scope.{IsRoleInScope, IsInScope, EntriesAreInScope}
use Rattle.sq_occ.proofs.Roles.{no_truth}
use Rattle.sq_occ.proofs.Scopes.{indices_alone, sort_below, replicate-long}

abbrev Binders : List Sort → Type 0
Binders b = Each (λ s. is_binder_sort s ≡ true) b

index-behind : (c : ℕ) (b : List Sort)
    → replicate c Index ++ (Index ∷ b) ≡ Index ∷ (replicate c Index ++ b)
index-behind zero b = refl
index-behind (suc c) b = ap (λ xs. Index ∷ xs) (index-behind c b)

with_indices-is : (c : ℕ) (b : List Sort) → with_indices c b ≡ replicate c Index ++ b
with_indices-is zero b = refl
with_indices-is (suc c) b = with_indices-is c (Index ∷ b) ∙ index-behind c b

binders-indices : (c : ℕ) (b : List Sort) → Binders b → Binders (with_indices c b)
binders-indices zero b h = h
binders-indices (suc c) b h =
    binders-indices c (Index ∷ b) (each_cons Index b (λ s. is_binder_sort s ≡ true) refl h)

each_if : {A : Type 0} (c : Bool) (P : A → Type 0) (xs ys : List A) → Each P xs → Each P ys
    → Each P (if c then xs else ys)
each_if true P xs ys h k = h
each_if false P xs ys h k = k

-- the arguments of a keyed function are messages
keyed_takes_messages : (funs : List FunDecl) (f : Kind) (k : ℕ)
    → is_keyed (function_role funs f) ≡ true → argument_sort f k ≡ Message
keyed_takes_messages funs (declared j) k h = refl
keyed_takes_messages funs _ k h = absurd (no_truth h)

module _ (g : Signature) (ok : are_functions g.funs ≡ true) (n : ℕ)
    (at_macro : List Sort → Macro → TsTree → List OccTree)
    (macros : (b : List Sort) (m : Macro) (t : TsTree) → Binders b → is_timestamp g b t ≡ true
    → Each (IsInScope g) (at_macro b m t)) where
  abbrev walked : List Sort → Bool → TermTree → List OccTree
  walked = walk g.funs n at_macro (λ b k. [])

  in_place : (is : List Idx) (o : RoleTree) (b : List Sort) → Binders b
      → are_indices g b is ≡ true → IsRoleInScope g b o → IsInScope g (place n is o b)
  in_place is o b h k l = record {
    binders = h;
    indices = k;
    message = l;
    guard = application-sorted g ok kind.truth b nil refl refl refl;
  }

  name_indices : (b : List Sort) (s : Sort) (t : TermTree) → has_sort g b s t ≡ true
      → are_indices g b (name_args t) ≡ true
  name_indices b s (name k is) h =
      (and_split (has_count_at g.names k (length is)) _
      (and_split (is_same_sort Message s) _ h).1).1
  name_indices b s _ h = refl

  first_indices_of : (b : List Sort) (f : Kind) (k : ℕ) (ts : TermTrees)
      → have_sorts g b f k ts ≡ true → are_indices g b (first_args ts) ≡ true
  first_indices_of b f k nil h = refl
  first_indices_of b f k (cons t ts) h =
      name_indices b (argument_sort f k) t (and_split (has_sort g b (argument_sort f k) t) _ h).0

  second_indices_of : (b : List Sort) (f : Kind) (k : ℕ) (ts : TermTrees)
      → have_sorts g b f k ts ≡ true → are_indices g b (second_args ts) ≡ true
  second_indices_of b f k nil h = refl
  second_indices_of b f k (cons t ts) h =
      first_indices_of b f (suc k) ts (and_split (has_sort g b (argument_sort f k) t) _ h).1

  first_message : (b : List Sort) (f : Kind) (ts : TermTrees) (K : Bool)
      → is_keyed (function_role g.funs f) ≡ K → (K && is_keyed_by n ts) ≡ true
      → have_sorts g b f 0 ts ≡ true → has_sort g b Message (first_term ts) ≡ true
  first_message b f ts false e h k = absurd (no_truth h)
  first_message b f nil true e h k = absurd (no_truth h)
  first_message b f (cons t ts) true e h k =
      subst (λ s. has_sort g b s t ≡ true) (keyed_takes_messages g.funs f 0 e)
      (and_split (has_sort g b (argument_sort f 0) t) _ k).0

  keyed_scope : (c : Bool) (u : OccTree) (us vs : List OccTree)
      → (c ≡ true → IsInScope g u) → Each (IsInScope g) us → Each (IsInScope g) vs
      → Each (IsInScope g) (if c then u ∷ us else vs)
  keyed_scope true u us vs h k l = each_cons u us (IsInScope g) (h refl) k
  keyed_scope false u us vs h k l = l

  mutual
    pub walk_scope : (t : TermTree) (b : List Sort) (side : Bool) (s : Sort) → Binders b
        → has_sort g b s t ≡ true
        → Each (IsInScope g) (walk g.funs n at_macro (λ b k. []) b side t)
    walk_scope (name k is) b side s bs h =
        each_if (k == n) (IsInScope g) (place n is bare b ∷ []) []
        (each_single (place n is bare b) (IsInScope g)
        (in_place is bare b bs (name_indices b s (name k is) h) tt))
        (each_none (IsInScope g))
    walk_scope (fun f is ts) b side s bs h =
        let p = (and_split (are_indices g b is) (have_sorts g b f 0 ts)
        (and_split (applies (slice_get g.funs (function_number f)) (length is) (count_terms ts)) _
        (and_split (is_same_sort (result_sort (slice_get g.funs (function_number f))) s) _
        h).1).1).1 in
        let role : RoleTree = key f (first_term ts) (side && is_hash (function_role g.funs f)) in
        keyed_scope (is_keyed (function_role g.funs f) && is_keyed_by n ts)
        (place n (second_args ts) role b) (walk_first g.funs n at_macro (λ b k. []) b ts)
        (if is_pk (function_role g.funs f) && is_only_name n ts
        then place n (first_args ts) public b ∷ []
        else walk_all g.funs n at_macro (λ b k. []) b (is_equality f) ts)
        (λ e. in_place (second_args ts) role b bs (second_indices_of b f 0 ts p)
        (first_message b f ts (is_keyed (function_role g.funs f)) refl e p))
        (first_scope ts b f 0 bs p)
        (each_if (is_pk (function_role g.funs f) && is_only_name n ts) (IsInScope g)
        (place n (first_args ts) public b ∷ [])
        (walk_all g.funs n at_macro (λ b k. []) b (is_equality f) ts)
        (each_single (place n (first_args ts) public b) (IsInScope g)
        (in_place (first_args ts) public b bs (first_indices_of b f 0 ts p) tt))
        (all_scope ts b (is_equality f) f 0 bs p))
    walk_scope (macro m t) b side s bs h =
        macros b m t bs (and_split (is_same_sort (macro_sort m) s) _ h).1
    walk_scope (schema k) b side s bs h = each_none (IsInScope g)
    walk_scope (diff x y) b side s bs h =
        let p = and_split (has_sort g b s x) (has_sort g b s y) h in
        each-append (walked b side x) (walked b side y) (IsInScope g)
        (walk_scope x b side s bs p.0) (walk_scope y b side s bs p.1)
    walk_scope (le t u) b side s bs h = each_none (IsInScope g)
    walk_scope (ts_eq t u) b side s bs h = each_none (IsInScope g)
    walk_scope (idx_eq i j) b side s bs h = each_none (IsInScope g)
    walk_scope (happens t) b side s bs h = each_none (IsInScope g)
    walk_scope (all o body) b side s bs h =
        let p = and_split (is_binder_sort o) _ (and_split (is_same_sort Boolean s) _ h).1 in
        walk_scope body (o ∷ b) false Boolean
        (each_cons o b (λ s. is_binder_sort s ≡ true) p.0 bs) p.1
    walk_scope (some o body) b side s bs h =
        let p = and_split (is_binder_sort o) _ (and_split (is_same_sort Boolean s) _ h).1 in
        walk_scope body (o ∷ b) false Boolean
        (each_cons o b (λ s. is_binder_sort s ≡ true) p.0 bs) p.1
    walk_scope (find c test found other) b side s bs h =
        let p = and_split (has_sort g (replicate c Index ++ b) Boolean test) _
        (and_split (is_same_sort Message s) _ h).1 in
        let q = and_split (has_sort g (replicate c Index ++ b) Message found)
        (has_sort g b Message other) p.1 in
        let same = sym (with_indices-is c b) in
        each-append (walked (with_indices c b) false test)
        (walked (with_indices c b) false found ++ walked b false other) (IsInScope g)
        (walk_scope test (with_indices c b) false Boolean (binders-indices c b bs)
        (subst (λ xs. has_sort g xs Boolean test ≡ true) same p.0))
        (each-append (walked (with_indices c b) false found) (walked b false other) (IsInScope g)
        (walk_scope found (with_indices c b) false Message (binders-indices c b bs)
        (subst (λ xs. has_sort g xs Message found ≡ true) same q.0))
        (walk_scope other b false Message bs q.1))

    first_scope : (ts : TermTrees) (b : List Sort) (f : Kind) (k : ℕ) → Binders b
        → have_sorts g b f k ts ≡ true
        → Each (IsInScope g) (walk_first g.funs n at_macro (λ b k. []) b ts)
    first_scope nil b f k bs h = each_none (IsInScope g)
    first_scope (cons t ts) b f k bs h =
        walk_scope t b false (argument_sort f k) bs
        (and_split (has_sort g b (argument_sort f k) t) _ h).0

    all_scope : (ts : TermTrees) (b : List Sort) (side : Bool) (f : Kind) (k : ℕ) → Binders b
        → have_sorts g b f k ts ≡ true
        → Each (IsInScope g) (walk_all g.funs n at_macro (λ b k. []) b side ts)
    all_scope nil b side f k bs h = each_none (IsInScope g)
    all_scope (cons t ts) b side f k bs h =
        let p = and_split (has_sort g b (argument_sort f k) t) (have_sorts g b f (suc k) ts) h in
        each-append (walked b side t) _ (IsInScope g)
        (walk_scope t b side (argument_sort f k) bs p.0) (all_scope ts b side f (suc k) bs p.1)

-- ---- places of lists

at-front : (xs ys : List Sort) (k : ℕ) (s : Sort) → has_sort_at xs k s ≡ true
    → has_sort_at (xs ++ ys) k s ≡ true
at-front [] ys k s h = absurd (no_truth h)
at-front (x ∷ xs) ys zero s h = h
at-front (x ∷ xs) ys (suc k) s h = at-front xs ys k s h

at-behind : (xs ys : List Sort) (k m : ℕ) (s : Sort) → length xs ≡ m → has_sort_at ys k s ≡ true
    → has_sort_at (xs ++ ys) (m + k) s ≡ true
at-behind [] ys k m s e h =
    let same : k ≡ m + k = omega (arith, e) in subst (λ j. has_sort_at ys j s ≡ true) same h
at-behind (x ∷ xs) ys k zero s e h = absurd (let f : suc (length xs) ≡ 0 = e in omega (arith, f))
at-behind (x ∷ xs) ys k (suc m) s e h =
    let same : suc (m + k) ≡ suc m + k = omega arith in
    let less : length xs ≡ m = omega (arith, e) in
    subst (λ j. has_sort_at (x ∷ (xs ++ ys)) j s ≡ true) same (at-behind xs ys k m s less h)

at-indices : (r : ℕ) (b : List Sort) (k : ℕ) → k < r
    → has_sort_at (with_indices r b) k Index ≡ true
at-indices r b k l =
    subst (λ xs. has_sort_at xs k Index ≡ true) (sym (with_indices-is r b)) (plain r k l)
  where
    plain : (r k : ℕ) → k < r → has_sort_at (replicate r Index ++ b) k Index ≡ true
    plain zero k l = absurd (omega arith)
    plain (suc r) zero l = refl
    plain (suc r) (suc k) l = plain r k (omega arith)

past-indices : (r : ℕ) (b : List Sort) (k : ℕ) (s : Sort) → has_sort_at b k s ≡ true
    → has_sort_at (with_indices r b) (r + k) s ≡ true
past-indices r b k s h =
    subst (λ xs. has_sort_at xs (r + k) s ≡ true) (sym (with_indices-is r b))
    (at-behind (replicate r Index) b k r s (replicate-long r Index) h)

-- ---- at a macro

module _ (e : EnvTree) (s : SystemTree) (schemas : ℕ) (vars : List Sort) where
  abbrev g : Signature
  g = signature_of e s schemas vars

  abbrev g_of : ℕ → Signature
  g_of r = signature_of e s 0 (replicate r Index)

  module _ (r : ℕ) (b : List Sort) where
    -- below m binders of a body the binders around it come behind these
    inside_index : (m : ℕ) (bs cs : List Sort) (i : Idx) → length bs ≡ m
        → cs ≡ bs ++ with_indices r b → is_index (g_of r) bs i ≡ true
        → is_index g cs (bound_index r m i) ≡ true
    inside_index m bs cs (Free k) l c h =
        let less : k < length (replicate r Index) = sort_below (replicate r Index) k Index h in
        let below : k < r = subst (λ z. k < z) (replicate-long r Index) less in
        let test : nat_lt k r ≡ true = grind (arith, nat_tests) in
        let at : has_sort_at (bs ++ with_indices r b) (m + (r - suc k)) Index ≡ true =
        at-behind bs (with_indices r b) (r - suc k) m Index l
        (at-indices r b (r - suc k) (omega arith)) in
        subst (λ xs. is_index g xs (if nat_lt k r then Bound (m + (r - suc k)) else Free k) ≡ true)
        (sym c)
        (ap (λ y. is_index g (bs ++ with_indices r b)
        (if y then Bound (m + (r - suc k)) else Free k)) test ∙ at)
    inside_index m bs cs (Bound k) l c h =
        subst (λ xs. has_sort_at xs k Index ≡ true) (sym c)
        (at-front bs (with_indices r b) k Index h)

    inside_indices : (bs : List Sort) (is : List Idx) → are_indices (g_of r) bs is ≡ true
        → are_indices g (bs ++ with_indices r b) (map (bound_index r (length bs)) is) ≡ true
    inside_indices bs [] h = refl
    inside_indices bs (i ∷ is) h =
        let p = and_split (is_index (g_of r) bs i) (are_indices (g_of r) bs is) h in
        and_both _ _ (inside_index (length bs) bs (bs ++ with_indices r b) i refl refl p.0)
        (inside_indices bs is p.1)

    no_variable : (k : ℕ) → nat_lt k 0 ≡ true → false ≡ true
    no_variable k h = absurd (let l : k < 0 = grind (arith, nat_tests) in omega arith)

    inside_term : (bs : List Sort) (sort : Sort) (t : TermTree)
        → has_sort (g_of r) bs sort t ≡ true
        → has_sort g (bs ++ with_indices r b) sort (map_term (binding r Both) (length bs) t) ≡ true
    inside_term bs sort t h =
        sort_kept (binding r Both) (g_of r) schemas vars
        (λ m bs cs. (length bs ≡ m) × (cs ≡ bs ++ with_indices r b))
        (λ m bs cs o h. ((omega (arith, h.0)), ap (λ xs. o ∷ xs) h.1))
        (λ m bs cs i h q. inside_index m bs cs i h.0 h.1 q)
        (λ m k bs cs h q. absurd (no_truth (indices_alone r k q)))
        (λ m k bs cs h q. subst (λ xs. has_sort_at xs k Timestamp ≡ true) (sym h.1)
        (at-front bs (with_indices r b) k Timestamp q))
        (λ m k bs cs h q. absurd (no_truth (no_variable k q)))
        (λ m bs cs t u h q p. no_some u p) (λ m bs cs s t u h q p. no_some u p) t (length bs) bs
        (bs ++ with_indices r b) sort (refl, refl) h

    inside_role : (bs : List Sort) (o : RoleTree) → IsRoleInScope (g_of r) bs o
        → IsRoleInScope g (bs ++ with_indices r b) (bound_role r (length bs) o)
    inside_role bs bare h = tt
    inside_role bs public h = tt
    inside_role bs (key f m test) h = inside_term bs Message m h

    -- the guard
    binders_sorted : (bs : List Sort) (c : ℕ) → c < suc r
        → are_indices g (bs ++ with_indices r b) (binders (length bs) c) ≡ true
    binders_sorted bs zero l = refl
    binders_sorted bs (suc c) l =
        and_both _ _
        (at-behind bs (with_indices r b) c (length bs) Index refl (at-indices r b c (omega arith)))
        (binders_sorted bs c (omega arith))

    lifted_at : (bs : List Sort) (k : ℕ) (sort : Sort) → has_sort_at b k sort ≡ true
        → has_sort_at (bs ++ with_indices r b) ((length bs + r) + k) sort ≡ true
    lifted_at bs k sort h =
        let same : length bs + (r + k) ≡ (length bs + r) + k = omega arith in
        subst (λ j. has_sort_at (bs ++ with_indices r b) j sort ≡ true) same
        (at-behind bs (with_indices r b) (r + k) (length bs) sort refl (past-indices r b k sort h))

    lifted_indices_sorted : (bs : List Sort) (is : List Idx) → are_indices g b is ≡ true
        → are_indices g (bs ++ with_indices r b) (map (lifted_idx (length bs + r)) is) ≡ true
    lifted_indices_sorted bs [] h = refl
    lifted_indices_sorted bs (Free k ∷ is) h =
        let p = and_split (is_index g b (Free k)) (are_indices g b is) h in
        and_both _ _ p.0 (lifted_indices_sorted bs is p.1)
    lifted_indices_sorted bs (Bound k ∷ is) h =
        let p = and_split (is_index g b (Bound k)) (are_indices g b is) h in
        and_both _ _ (lifted_at bs k Index p.0) (lifted_indices_sorted bs is p.1)

    as_many : (k : ℕ) (is : List Idx) → length (map (lifted_idx k) is) ≡ length is
    as_many k [] = refl
    as_many k (i ∷ is) = ap suc (as_many k is)

    lifted_sorted : (bs : List Sort) (t : TsTree) → is_timestamp g b t ≡ true
        → is_timestamp g (bs ++ with_indices r b) (lifted_ts (length bs + r) t) ≡ true
    lifted_sorted bs (free k) h = h
    lifted_sorted bs (bound k) h = lifted_at bs k Timestamp h
    lifted_sorted bs init h = refl
    lifted_sorted bs (pred t) h = lifted_sorted bs t h
    lifted_sorted bs (action a is) h =
        let p = and_split (has_count_at g.actions a (length is)) (are_indices g b is) h in
        and_both _ _ (ap (has_count_at g.actions a) (as_many (length bs + r) is) ∙ p.0)
        (lifted_indices_sorted bs is p.1)

    reach_sorted : (m : Macro) (t : TsTree) → is_timestamp g b t ≡ true
        → is_timestamp g b (reach m t) ≡ true
    reach_sorted Input t h = h
    reach_sorted Output t h = h
    reach_sorted Cond t h = h
    reach_sorted Exec t h = h
    reach_sorted Frame t h = h

    binders-length : (d c : ℕ) → length (binders d c) ≡ c
    binders-length d zero = refl
    binders-length d (suc c) = ap suc (binders-length d c)

    -- an entry of a body of action j, which has r indices, at a macro
    entry_scope : (j : ℕ) (m : Macro) (t : TsTree) (u : OccTree) → Binders b
        → has_count_at g.actions j r ≡ true → is_timestamp g b t ≡ true → IsInScope (g_of r) u
        → IsInScope g (in_action j r b m t u)
    entry_scope j m t u bs count time h = record {
      binders =
          each-append u.bound (with_indices r b) (λ s. is_binder_sort s ≡ true) h.binders
          (binders-indices r b bs);
      indices = inside_indices u.bound u.args h.indices;
      message = inside_role u.bound u.role h.message;
      guard =
          and_both _ _
          (and_both _ _
          (ap (has_count_at g.actions j) (binders-length (length u.bound) r) ∙ count)
          (binders_sorted u.bound r (omega arith)))
          (lifted_sorted u.bound (reach m t) (reach_sorted m t time));
    }

  counts_at : (acts : List ActionTree) (j k : ℕ) (a : ActionTree) → slice_get acts k ≡ Some a
      → has_count_at (map (λ a. a.arity) acts) k a.arity ≡ true
  counts_at [] j k a h = absurd (let f : None ≡ Some a = h in cc)
  counts_at (x ∷ acts) j zero a h =
      let same : x ≡ a = (let f : Some x ≡ Some a = h in cc) in
      eq-eqb x.arity a.arity (ap (λ y. y.arity) same)
  counts_at (x ∷ acts) j (suc k) a h = counts_at acts j k a h

  module _ (ok : are_functions e.funs ≡ true) (sorted : is_well_sorted e s ≡ true) (left : Bool)
      (n : ℕ) where
    body_scope : (r : ℕ) (sort : Sort) (t : TermTree) → is_body (g_of r) sort t ≡ true
        → Each (IsInScope (g_of r)) (body_places e.funs n (side_of left) t)
    body_scope r sort t h =
        walk_scope (g_of r) ok n (λ b m t. []) (λ b m t bs h. each_none (IsInScope (g_of r)))
        (projected (side_of left) t) [] false sort (each_none (λ s. is_binder_sort s ≡ true))
        (side-sort (g_of r) (side_of left) [] sort t
        (and_split (has_sort (g_of r) [] sort t) _ h).0)

    action_scope : (a : ActionTree) → are_bodies e s a ≡ true
        → Each (IsInScope (g_of a.arity)) (action_places e.funs n (side_of left) a)
    action_scope a h =
        let p = and_split (is_body (g_of a.arity) Boolean a.cond) _ h in
        each-append (body_places e.funs n (side_of left) a.cond)
        (body_places e.funs n (side_of left) a.output) (IsInScope (g_of a.arity))
        (body_scope a.arity Boolean a.cond p.0) (body_scope a.arity Message a.output p.1)

    -- the actions from number j on
    actions_scope : (acts : List ActionTree) (j : ℕ) (b : List Sort) (m : Macro) (t : TsTree)
        → ((k : ℕ) (a : ActionTree) → slice_get acts k ≡ Some a
        → (has_count_at g.actions (j + k) a.arity ≡ true) × (are_bodies e s a ≡ true))
        → Binders b → is_timestamp g b t ≡ true
        → Each (IsInScope g) (in_actions e.funs n (side_of left) b m t j acts)
    actions_scope [] j b m t h bs time = each_none (IsInScope g)
    actions_scope (a ∷ acts) j b m t h bs time =
        let p = h 0 a refl in
        let none : j + 0 ≡ j = omega arith in
        each-append (map (in_action j a.arity b m t) (action_places e.funs n (side_of left) a)) _
        (IsInScope g)
        (each-map (in_action j a.arity b m t) (action_places e.funs n (side_of left) a)
        (IsInScope g)
        (λ u i. entry_scope a.arity b j m t u bs
        (subst (λ x. has_count_at g.actions x a.arity ≡ true) none p.0) time
        (action_scope a p.1 u i)))
        (actions_scope acts (suc j) b m t
        (λ k x i. let q = h (suc k) x i in
        let same : j + suc k ≡ suc j + k = omega arith in
        (subst (λ y. has_count_at g.actions y x.arity ≡ true) same q.0, q.1)) bs time)

    known : (k : ℕ) (a : ActionTree) → slice_get s.actions k ≡ Some a
        → (has_count_at g.actions (0 + k) a.arity ≡ true) × (are_bodies e s a ≡ true)
    known k a h =
        let none : k ≡ 0 + k = omega arith in (
          subst (λ x. has_count_at g.actions x a.arity ≡ true) none (counts_at s.actions 0 k a h),
          found s.actions k a h sorted,
        )
      where
        found : (acts : List ActionTree) (k : ℕ) (a : ActionTree) → slice_get acts k ≡ Some a
            → list_all (are_bodies e s) acts ≡ true
            → are_bodies e s a ≡ true
        found [] k a h l = absurd (let f : None ≡ Some a = h in cc)
        found (x ∷ acts) zero a h l =
            let same : x ≡ a = (let f : Some x ≡ Some a = h in cc) in
            subst (λ y. are_bodies e s y ≡ true) same (and_split (are_bodies e s x) _ l).0
        found (x ∷ acts) (suc k) a h l =
            found acts k a h (and_split (are_bodies e s x) _ l).1

    pub term_scope : (sort : Sort) (t : TermTree) → has_sort g [] sort t ≡ true
        → Each (IsInScope g) (side_places e.funs n (side_of left) s t)
    term_scope sort t h =
        walk_scope g ok n (λ b m t. in_actions e.funs n (side_of left) b m t 0 s.actions)
        (λ b m t bs time. actions_scope s.actions 0 b m t known bs time)
        (projected (side_of left) t) [] false sort (each_none (λ s. is_binder_sort s ≡ true))
        (side-sort g (side_of left) [] sort t h)

pub entries_in_scope : EntriesAreInScope
entries_in_scope e s left n schemas vars sort t ok sorted h =
    term_scope e s schemas vars ok sorted left n sort t h
