-- A term with a term, a timestamp or an index of the same sort in the place of another keeps its
-- sort.
use Rattle.std.proofs.Common.{◌≡◌, ℕ, refl, ap, subst, List, [], ◌∷◌, Some, None, Bool}
use Rattle.std.proofs.Common.{true}
use Rattle.std.proofs.Common.{false}
use Rattle.std.specs.Prelude.{if◌then◌else◌}
use Rattle.sq_base.specs.declared.sort.Sort.{Sort}
use Rattle.sq_base.specs.declared.sort.Sort.TheVariants.{Boolean, Timestamp}
use Rattle.sq_term.specs.declared.term.Idx.{Idx}
use Rattle.sq_term.specs.declared.term.Idx.TheVariants.{Free, Bound}
use Rattle.sq_term.specs.Syntax.{TsTree, TermTree, happens}
use Rattle.sq_term.specs.TreeEquality.{is_same_tree}
use Rattle.sq_term.specs.TsEquality.{is_same_idx, is_same_ts_tree}
use Rattle.sq_term.proofs.SameTrees.{is_same_tree-decides}
use Rattle.sq_typing.specs.Diffs.{holds_diff}
use Rattle.sq_typing.specs.Typing.{Signature, has_sort_at, is_index, is_timestamp, has_sort}
use Rattle.sq_typing.proofs.SortLaws.{sort_is_one}
use Rattle.sq_subst.specs.Renaming.{exchanging, idx_replaced}
use Rattle.sq_subst.specs.Replacement.{exchanging_times, ts_replaced, exchanging_terms}
use Rattle.sq_subst.specs.Replacement.{term_replaced}
use Rattle.sq_formula.proofs.ClosedSorts.{sorted-below}
use Rattle.sq_formula.proofs.KeptParts.{no_diff}
use Rattle.sq_formula.proofs.KeptSorts.{no_some, sort_kept}

module _ (g : Signature) where
  abbrev Same : ℕ → List Sort → List Sort → Type 0
  Same m bs cs = bs ≡ cs

  deeper : (m : ℕ) (bs cs : List Sort) (b : Sort) → bs ≡ cs → b ∷ bs ≡ b ∷ cs
  deeper m bs cs b r = ap (λ xs. b ∷ xs) r

  index_same : (m : ℕ) (bs cs : List Sort) (i : Idx) → bs ≡ cs → is_index g bs i ≡ true
      → is_index g cs i ≡ true
  index_same m bs cs i r e = subst (λ xs. is_index g xs i ≡ true) r e

  time_same : (m k : ℕ) (bs cs : List Sort) → bs ≡ cs → has_sort_at bs k Timestamp ≡ true
      → has_sort_at cs k Timestamp ≡ true
  time_same m k bs cs r e = subst (λ xs. has_sort_at xs k Timestamp ≡ true) r e

  -- what needs no binder has its sort below binders
  pub time-below : (bs : List Sort) (t : TsTree) → is_timestamp g [] t ≡ true
      → is_timestamp g bs t ≡ true
  time-below bs t e = sorted-below g bs Boolean (happens t) e

  pub index-below : (bs : List Sort) (i : Idx) → is_index g [] i ≡ true → is_index g bs i ≡ true
  index-below bs (Free k) e = e
  index-below bs (Bound k) e = let z : false ≡ true = e in absurd (cc)

  -- ---- a term for another

  term_put : (r s : Sort) (from to : TermTree) → has_sort g [] r from ≡ true
      → has_sort g [] r to ≡ true → (bs cs : List Sort) (t u : TermTree)
      → has_sort g bs s t ≡ true → (b : Bool) → is_same_tree t from ≡ b
      → (if b then Some to else None) ≡ Some u → has_sort g cs s u ≡ true
  term_put r s from to f o bs cs t u h true q e =
      let is : t ≡ from = (is_same_tree-decides t from).0 q in
      let there : to ≡ u = cc in
      let sorts : r ≡ s =
      sort_is_one g [] bs r s from f (subst (λ x. has_sort g bs s x ≡ true) is h) in
      subst (λ x. has_sort g cs s x ≡ true) there
      (subst (λ x. has_sort g cs x to ≡ true) sorts (sorted-below g cs r to o))
  term_put r s from to f o bs cs t u h false q e = no_some u e

  pub term-sort : (r : Sort) (from to : TermTree) → has_sort g [] r from ≡ true
      → has_sort g [] r to ≡ true → (s : Sort) (t : TermTree) → has_sort g [] s t ≡ true
      → has_sort g [] s (term_replaced from to t) ≡ true
  term-sort r from to f o s t e =
      sort_kept (exchanging_terms from to) g g.schemas g.vars Same deeper index_same
      (λ m k bs cs p q. q) time_same (λ m k bs cs p q. q) (λ m bs cs t u p q w. no_some u w)
      (λ m bs cs s t u p q w. term_put r s from to f o bs cs t u q (is_same_tree t from) refl w)
      t 0 [] [] s refl e

  -- ---- a timestamp for another

  time_put : (from to : TsTree) → is_timestamp g [] to ≡ true → (cs : List Sort) (u : TsTree)
      → (b : Bool) → (if b then Some to else None) ≡ Some u → is_timestamp g cs u ≡ true
  time_put from to o cs u true e =
      let there : to ≡ u = cc in
      subst (λ x. is_timestamp g cs x ≡ true) there (time-below cs to o)
  time_put from to o cs u false e = no_some u e

  pub time-sort : (from to : TsTree) → is_timestamp g [] to ≡ true → (s : Sort) (t : TermTree)
      → has_sort g [] s t ≡ true → has_sort g [] s (ts_replaced from to t) ≡ true
  time-sort from to o s t e =
      sort_kept (exchanging_times from to) g g.schemas g.vars Same deeper index_same
      (λ m k bs cs p q. q) time_same (λ m k bs cs p q. q)
      (λ m bs cs t u p q w. time_put from to o cs u (is_same_ts_tree t from) w)
      (λ m bs cs s t u p q w. no_some u w) t 0 [] [] s refl e

  -- ---- an index for another

  index_put : (from to : Idx) → is_index g [] to ≡ true → (bs cs : List Sort) (i : Idx) → bs ≡ cs
      → is_index g bs i ≡ true → (b : Bool) → is_index g cs (if b then to else i) ≡ true
  index_put from to o bs cs i r e true = index-below cs to o
  index_put from to o bs cs i r e false = index_same 0 bs cs i r e

  pub index-sort : (from to : Idx) → is_index g [] to ≡ true → (s : Sort) (t : TermTree)
      → has_sort g [] s t ≡ true → has_sort g [] s (idx_replaced from to t) ≡ true
  index-sort from to o s t e =
      sort_kept (exchanging from to) g g.schemas g.vars Same deeper
      (λ m bs cs i p q. index_put from to o bs cs i p q (is_same_idx i from))
      (λ m k bs cs p q. q) time_same (λ m k bs cs p q. q) (λ m bs cs t u p q w. no_some u w)
      (λ m bs cs s t u p q w. no_some u w) t 0 [] [] s refl e

-- no difference comes in with a term that holds none
put_no_diff : (to u : TermTree) (b : Bool) → holds_diff to ≡ false
    → (if b then Some to else None) ≡ Some u
    → holds_diff u ≡ false
put_no_diff to u true e q = let there : to ≡ u = cc in
    subst (λ x. holds_diff x ≡ false) there e
put_no_diff to u false e q = no_some u q

pub term-no_diff : (from to t : TermTree) → holds_diff to ≡ false → holds_diff t ≡ false
    → holds_diff (term_replaced from to t) ≡ false
term-no_diff from to t e h =
    no_diff (exchanging_terms from to) (λ m k. refl)
    (λ t u q. put_no_diff to u (is_same_tree t from) e q) t 0 (λ q. h)
