-- A body with a value for its variable is well-sorted where the body is, and a term stays so where
-- there are more variables.
use Rattle.std.proofs.Common.{◌≡◌, ◌⊎◌, inl, inr, ℕ, zero, suc, ◌+◌, ◌-◌, ◌<◌, ◌≤◌, refl, ap, subst}
use Rattle.std.proofs.Common.{List, [], ◌∷◌, ◌++◌, length, Some, None, Bool, true, false}
use Rattle.std.proofs.Common.{nat_le, arith}
use Rattle.std.specs.Prelude.{slice_get, if◌then◌else◌}
use Rattle.std.proofs.lemmas.Bool.Decides.{nat_tests}
use Rattle.sq_base.specs.declared.sort.Sort.{Sort}
use Rattle.sq_base.specs.declared.sort.Sort.TheVariants.{Message, Boolean, Index, Timestamp}
use Rattle.sq_term.specs.declared.term.Idx.{Idx}
use Rattle.sq_term.specs.declared.term.Idx.TheVariants.{Free, Bound}
use Rattle.sq_term.specs.Arguments.{ArgTree, an_index, a_time}
use Rattle.sq_term.specs.Syntax.{TsTree, free, bound, init, pred, action, TermTree}
use Rattle.sq_term.specs.Pure.{is_pure}
use Rattle.sq_term.proofs.SameTrees.{is_same_sort-decides}
use Rattle.sq_term.proofs.BoolTests.{and_split, and_both}
use Rattle.sq_typing.specs.Diffs.{holds_diff}
use Rattle.sq_typing.specs.Typing.{Signature, has_sort_at, has_count_at, is_index, are_indices}
use Rattle.sq_typing.specs.Typing.{is_timestamp, has_sort}
use Rattle.sq_subst.specs.Leaves.{keeping, map_term}
use Rattle.sq_subst.specs.Substitution.{index_or, time_or, substitution, opened}
use Rattle.sq_subst.proofs.TestLaws.{no_tests, passes_none}
use Rattle.sq_subst.proofs.Fusion.{kept}
use Rattle.sq_formula.proofs.KeptParts.{pure_kept, no_diff}
use Rattle.sq_formula.proofs.KeptSorts.{no_some, with_variables, sort_kept}

-- ---- more variables

pub sort_at-more : (vs ws : List Sort) (k : ℕ) (s : Sort) → has_sort_at vs k s ≡ true
    → has_sort_at (vs ++ ws) k s ≡ true
sort_at-more [] ws k s h = let z : false ≡ true = h in absurd (cc)
sort_at-more (v ∷ vs) ws zero s h = h
sort_at-more (v ∷ vs) ws (suc k) s h = sort_at-more vs ws k s h

pub sort_at-last : (vs : List Sort) (s : Sort) → has_sort_at (vs ++ s ∷ []) (length vs) s ≡ true
sort_at-last [] s = (is_same_sort-decides s s).1 refl
sort_at-last (v ∷ vs) s = sort_at-last vs s

-- each variable keeps its sort
abbrev pub Keep : List Sort → List Sort → Type 0
Keep vs ws = (k : ℕ) (s : Sort) → has_sort_at vs k s ≡ true → has_sort_at ws k s ≡ true

module _ (g : Signature) (vars : List Sort) (keep : Keep g.vars vars) where
  abbrev h : Signature
  h = with_variables g g.schemas vars

  index_widened : (m : ℕ) (bs cs : List Sort) (i : Idx) → bs ≡ cs → is_index g bs i ≡ true
      → is_index h cs i ≡ true
  index_widened m bs cs (Free k) r e = keep k Index e
  index_widened m bs cs (Bound k) r e = subst (λ xs. has_sort_at xs k Index ≡ true) r e

  pub widened : (s : Sort) (t : TermTree) → has_sort g [] s t ≡ true → has_sort h [] s t ≡ true
  widened s t e =
      let kept_sort : has_sort h [] s (map_term keeping 0 t) ≡ true =
      sort_kept keeping g g.schemas vars (λ m bs cs. bs ≡ cs)
      (λ m bs cs b r. ap (λ xs. b ∷ xs) r) index_widened
      (λ m k bs cs r q. keep k Timestamp q)
      (λ m k bs cs r q. subst (λ xs. has_sort_at xs k Timestamp ≡ true) r q)
      (λ m k bs cs r q. q) (λ m bs cs t u r q p. no_some u p)
      (λ m bs cs s t u r q p. no_some u p) t 0 [] [] s refl e in
      subst (λ u. has_sort h [] s u ≡ true)
      (kept keeping no_tests (λ m i q. refl) (λ m k q. refl) (λ m k q. refl) (λ m k q. refl) 0 t
      (passes_none 0 t)) kept_sort

-- ---- a body with a value for its variable

-- the value has the binder's sort
abbrev pub is_value : Signature → Sort → ArgTree → Bool
is_value g Index (an_index i) = is_index g [] i
is_value g Timestamp (a_time t) = is_timestamp g [] t
is_value g _ _ = false

-- what needs no binder has its sort below binders
index_below : (g : Signature) (cs : List Sort) (i : Idx) → is_index g [] i ≡ true
    → is_index g cs i ≡ true
index_below g cs (Free k) e = e
index_below g cs (Bound k) e = let z : false ≡ true = e in absurd (cc)

indices_below : (g : Signature) (cs : List Sort) (is : List Idx) → are_indices g [] is ≡ true
    → are_indices g cs is ≡ true
indices_below g cs [] e = refl
indices_below g cs (i ∷ is) e =
    let p = and_split (is_index g [] i) (are_indices g [] is) e in
    and_both (is_index g cs i) (are_indices g cs is) (index_below g cs i p.0)
    (indices_below g cs is p.1)

time_below : (g : Signature) (cs : List Sort) (t : TsTree) → is_timestamp g [] t ≡ true
    → is_timestamp g cs t ≡ true
time_below g cs (free k) e = e
time_below g cs (bound k) e = let z : false ≡ true = e in absurd (cc)
time_below g cs init e = refl
time_below g cs (pred t) e = time_below g cs t e
time_below g cs (action a is) e =
    let p = and_split (has_count_at g.actions a (length is)) (are_indices g [] is) e in
    and_both (has_count_at g.actions a (length is)) (are_indices g cs is) p.0
    (indices_below g cs is p.1)

index_value_below : (g : Signature) (x : Sort) (w : ArgTree) (cs : List Sort) (k : ℕ) → x ≡ Index
    → is_value g x w ≡ true → is_index g cs (index_or (Some w) (Bound k)) ≡ true
index_value_below g Index (an_index i) cs k q e = index_below g cs i e
index_value_below g Index (a_time t) cs k q e = let z : false ≡ true = e in absurd (cc)
index_value_below g Timestamp w cs k q e = absurd (cc)
index_value_below g Message w cs k q e = absurd (cc)
index_value_below g Boolean w cs k q e = absurd (cc)

time_value_below : (g : Signature) (x : Sort) (w : ArgTree) (cs : List Sort) (k : ℕ) → x ≡ Timestamp
    → is_value g x w ≡ true → is_timestamp g cs (time_or (Some w) (bound k)) ≡ true
time_value_below g Timestamp (a_time t) cs k q e = time_below g cs t e
time_value_below g Timestamp (an_index i) cs k q e = let z : false ≡ true = e in absurd (cc)
time_value_below g Index w cs k q e = absurd (cc)
time_value_below g Message w cs k q e = absurd (cc)
time_value_below g Boolean w cs k q e = absurd (cc)

-- a place among the binders within, or the last place
below_or_last : (cs : List Sort) (x s : Sort) (k : ℕ) → has_sort_at (cs ++ x ∷ []) k s ≡ true
    → ((k < length cs) × (has_sort_at cs k s ≡ true)) ⊎ ((k ≡ length cs) × (x ≡ s))
below_or_last [] x s zero e = inr (refl, (is_same_sort-decides x s).0 e)
below_or_last [] x s (suc k) e = let z : false ≡ true = e in absurd (cc)
below_or_last (c ∷ cs) x s zero e = inl (omega arith, e)
below_or_last (c ∷ cs) x s (suc k) e = elim (below_or_last cs x s k e) [
  | inl p ↦ inl (omega (arith, p.0), p.1)
  | inr q ↦ inr (ap suc q.0, q.1)
]

module _ (g : Signature) (vars : List Sort) (keep : Keep g.vars vars) (x : Sort) (w : ArgTree)
    (fit : is_value (with_variables g g.schemas vars) x w ≡ true) where
  abbrev wide : Signature
  wide = with_variables g g.schemas vars

  abbrev Within : ℕ → List Sort → List Sort → Type 0
  Within m bs cs = (bs ≡ cs ++ x ∷ []) × (length cs ≡ m)

  deeper : (m : ℕ) (bs cs : List Sort) (b : Sort) → Within m bs cs
      → Within (m + 1) (b ∷ bs) (b ∷ cs)
  deeper m bs cs b r = (ap (λ xs. b ∷ xs) r.0, omega (arith, r.1))

  index_at : (m k : ℕ) (cs : List Sort) → length cs ≡ m
      → ((k < length cs) × (has_sort_at cs k Index ≡ true)) ⊎ ((k ≡ length cs) × (x ≡ Index))
      → (b : Bool) → nat_le m k ≡ b → (n : ℕ) → k - m ≡ n
      → is_index wide cs (index_or (if b then slice_get (w ∷ []) n else None) (Bound k)) ≡ true
  index_at m k cs l (inl p) false q n d = p.1
  index_at m k cs l (inl p) true q n d = let i : m ≤ k = grind (arith, nat_tests) in let j =
      p.0 in absurd (omega arith)
  index_at m k cs l (inr p) false q n d = let i : k < m = grind (arith, nat_tests) in let j =
      p.0 in absurd (omega arith)
  index_at m k cs l (inr p) true q zero d = index_value_below wide x w cs k p.1 fit
  index_at m k cs l (inr p) true q (suc n) d = let j = p.0 in absurd (omega arith)

  time_at : (m k : ℕ) (cs : List Sort) → length cs ≡ m
      → ((k < length cs) × (has_sort_at cs k Timestamp ≡ true)) ⊎
      ((k ≡ length cs) × (x ≡ Timestamp))
      → (b : Bool) → nat_le m k ≡ b → (n : ℕ) → k - m ≡ n
      → is_timestamp wide cs (time_or (if b then slice_get (w ∷ []) n else None) (bound k)) ≡ true
  time_at m k cs l (inl p) false q n d = p.1
  time_at m k cs l (inl p) true q n d = let i : m ≤ k = grind (arith, nat_tests) in let j =
      p.0 in absurd (omega arith)
  time_at m k cs l (inr p) false q n d = let i : k < m = grind (arith, nat_tests) in let j =
      p.0 in absurd (omega arith)
  time_at m k cs l (inr p) true q zero d = time_value_below wide x w cs k p.1 fit
  time_at m k cs l (inr p) true q (suc n) d = let j = p.0 in absurd (omega arith)

  index_opened : (m : ℕ) (bs cs : List Sort) (i : Idx) → Within m bs cs → is_index g bs i ≡ true
      → is_index wide cs ((substitution [] (w ∷ []) []).index m i) ≡ true
  index_opened m bs cs (Free k) r e = keep k Index e
  index_opened m bs cs (Bound k) r e =
      index_at m k cs r.1
      (below_or_last cs x Index k (subst (λ xs. has_sort_at xs k Index ≡ true) r.0 e))
      (nat_le m k) refl (k - m) refl

  time_opened : (m k : ℕ) (bs cs : List Sort) → Within m bs cs → has_sort_at bs k Timestamp ≡ true
      → is_timestamp wide cs ((substitution [] (w ∷ []) []).bound_time m k) ≡ true
  time_opened m k bs cs r e =
      time_at m k cs r.1
      (below_or_last cs x Timestamp k (subst (λ xs. has_sort_at xs k Timestamp ≡ true) r.0 e))
      (nat_le m k) refl (k - m) refl

  pub opened_sort : (s : Sort) (body : TermTree) → has_sort g (x ∷ []) s body ≡ true
      → has_sort wide [] s (opened w body) ≡ true
  opened_sort s body e =
      sort_kept (substitution [] (w ∷ []) []) g g.schemas vars Within deeper index_opened
      (λ m k bs cs r q. keep k Timestamp q) time_opened (λ m k bs cs r q. q)
      (λ m bs cs t u r q p. no_some u p) (λ m bs cs s t u r q p. no_some u p) body 0
      (x ∷ []) [] s (refl, refl) e

-- ---- what it speaks of

pub opened_pure : (w : ArgTree) (t : TermTree) → is_pure t ≡ true → is_pure (opened w t) ≡ true
opened_pure w t e = pure_kept (substitution [] (w ∷ []) []) (λ t. refl) t 0 e

pub opened_no_diff : (w : ArgTree) (t : TermTree) → holds_diff t ≡ false
    → holds_diff (opened w t) ≡ false
opened_no_diff w t e =
    no_diff (substitution [] (w ∷ []) []) (λ m k. refl) (λ t u q. no_some u q) t 0 (λ q. e)
