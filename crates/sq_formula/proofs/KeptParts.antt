-- What a walk leaves of a trace formula, and of a term without a difference.
use Rattle.std.proofs.Common.{◌≡◌, ℕ, suc, ◌+◌, refl, ap, ◌∙◌, List, [], ◌∷◌, map, Option, Some}
use Rattle.std.proofs.Common.{None, Bool, true, false, ◌&&◌, ◌||◌}
use Rattle.std.specs.Prelude.{unwrap_or}
use Rattle.sq_term.specs.declared.term.Idx.{Idx}
use Rattle.sq_term.specs.declared.term.Side.{Side}
use Rattle.sq_term.specs.declared.term.Side.TheVariants.{Left, Right, Both}
use Rattle.sq_term.specs.Measure.{count_terms}
use Rattle.sq_term.specs.Pure.{is_connective, has_no_indices, is_binder_sort, is_pure, are_pure}
use Rattle.sq_term.specs.Syntax.{TermTree, name, fun, macro, schema, diff, le, ts_eq, idx_eq}
use Rattle.sq_term.specs.Syntax.{happens, all, some, find, TermTrees, nil, cons}
use Rattle.sq_typing.specs.Diffs.{holds_diff, hold_diff}
use Rattle.sq_subst.specs.Leaves.{Leaves, on_side, term_below, map_term, map_terms}
use Rattle.sq_subst.proofs.InPlace.{map_term-below}
use Rattle.sq_formula.proofs.KeptSorts.{both_kept}

-- ---- where no term is put in the place of another, a trace formula stays one

module _ (L : Leaves) (none : (t : TermTree) → L.term t ≡ None) where
  count_kept : (ts : TermTrees) (m : ℕ) → count_terms (map_terms L m ts) ≡ count_terms ts
  count_kept nil m = refl
  count_kept (cons t ts) m = ap suc (count_kept ts m)

  no_indices_kept : (f : Idx → Idx) (is : List Idx) → has_no_indices (map f is) ≡ has_no_indices is
  no_indices_kept f [] = refl
  no_indices_kept f (i ∷ is) = refl

  whole_pure : (t : TermTree) (m : ℕ) → is_pure (term_below L m t) ≡ true
      → is_pure (map_term L m t) ≡ true
  whole_pure t m e = ap is_pure (map_term-below L m t (none t)) ∙ e

  mutual
    below_pure : (t : TermTree) (m : ℕ) → is_pure t ≡ true → is_pure (term_below L m t) ≡ true
    below_pure (name n is) m e = let z : false ≡ true = e in absurd (cc)
    below_pure (fun f is ts) m e =
        both_kept (is_connective f (count_terms ts)) (has_no_indices is && are_pure ts)
        (is_connective f (count_terms (map_terms L m ts))) _
        (λ q. ap (is_connective f) (count_kept ts m) ∙ q)
        (both_kept (has_no_indices is) (are_pure ts) (has_no_indices (map (L.index m) is)) _
        (λ q. no_indices_kept (L.index m) is ∙ q) (all_pure ts m)) e
    below_pure (macro x t) m e = let z : false ≡ true = e in absurd (cc)
    below_pure (schema k) m e = let z : false ≡ true = e in absurd (cc)
    below_pure (diff a b) m e = let z : false ≡ true = e in absurd (cc)
    below_pure (le t s) m e = refl
    below_pure (ts_eq t s) m e = refl
    below_pure (idx_eq i j) m e = refl
    below_pure (happens t) m e = refl
    below_pure (all s t) m e =
        both_kept (is_binder_sort s) (is_pure t) (is_binder_sort s) _ (λ q. q)
        (λ q. whole_pure t (m + 1) (below_pure t (m + 1) q)) e
    below_pure (some s t) m e =
        both_kept (is_binder_sort s) (is_pure t) (is_binder_sort s) _ (λ q. q)
        (λ q. whole_pure t (m + 1) (below_pure t (m + 1) q)) e
    below_pure (find c t a b) m e = let z : false ≡ true = e in absurd (cc)

    all_pure : (ts : TermTrees) (m : ℕ) → are_pure ts ≡ true → are_pure (map_terms L m ts) ≡ true
    all_pure nil m e = refl
    all_pure (cons t ts) m e =
        both_kept (is_pure t) (are_pure ts) (is_pure (map_term L m t)) _
        (λ q. whole_pure t m (below_pure t m q)) (all_pure ts m) e

  pub pure_kept : (t : TermTree) (m : ℕ) → is_pure t ≡ true → is_pure (map_term L m t) ≡ true
  pure_kept t m e = whole_pure t m (below_pure t m e)

-- ---- differences

pub or_neither : (a b : Bool) → a ≡ false → b ≡ false → (a || b) ≡ false
or_neither true b e f = e
or_neither false b e f = f

pub or_parts : (a b : Bool) → (a || b) ≡ false → (a ≡ false) × (b ≡ false)
or_parts true b e = absurd (cc)
or_parts false b e = (refl, e)

-- Where what is put in holds none, none is left in a term that holds none, and in any where one
-- side is taken.
module _ (L : Leaves) (messages : (m k : ℕ) → holds_diff (L.message m k) ≡ false)
    (terms : (t u : TermTree) → L.term t ≡ Some u → holds_diff u ≡ false) where
  abbrev NoneLeft : Bool → Type 0
  NoneLeft holds = L.side ≡ Both → holds ≡ false

  taken : (o : Side) (x y : TermTree) → L.side ≡ o → NoneLeft true → holds_diff x ≡ false
      → holds_diff y ≡ false → holds_diff (on_side o x y) ≡ false
  taken Left x y q n e f = e
  taken Right x y q n e f = f
  taken Both x y q n e f = absurd (let z : true ≡ false = n q in cc)

  put : (t : TermTree) (m : ℕ) (o : Option TermTree) → L.term t ≡ o
      → holds_diff (term_below L m t) ≡ false
      → holds_diff (unwrap_or o (term_below L m t)) ≡ false
  put t m (Some u) q e = terms t u q
  put t m None q e = e

  whole : (t : TermTree) (m : ℕ) → holds_diff (term_below L m t) ≡ false
      → holds_diff (map_term L m t) ≡ false
  whole t m e = put t m (L.term t) refl e

  mutual
    below : (t : TermTree) (m : ℕ) → NoneLeft (holds_diff t) → holds_diff (term_below L m t) ≡ false
    below (name n is) m e = refl
    below (fun f is ts) m e = each ts m e
    below (macro x t) m e = refl
    below (schema k) m e = messages m k
    below (diff a b) m e =
        let any : (holds : Bool) → NoneLeft holds =
        λ holds q. absurd (let z : true ≡ false = e q in cc) in
        taken L.side (map_term L m a) (map_term L m b) refl e
        (whole a m (below a m (any (holds_diff a)))) (whole b m (below b m (any (holds_diff b))))
    below (le t s) m e = refl
    below (ts_eq t s) m e = refl
    below (idx_eq i j) m e = refl
    below (happens t) m e = refl
    below (all s t) m e = whole t (m + 1) (below t (m + 1) e)
    below (some s t) m e = whole t (m + 1) (below t (m + 1) e)
    below (find c t a b) m e =
        or_neither (holds_diff (map_term L (m + c) t)) _
        (whole t (m + c)
        (below t (m + c) (λ q. (or_parts (holds_diff t) (holds_diff a || holds_diff b) (e q)).0)))
        (or_neither (holds_diff (map_term L (m + c) a)) (holds_diff (map_term L m b))
        (whole a (m + c) (below a (m + c) (λ q. (or_parts (holds_diff a) (holds_diff b)
        (or_parts (holds_diff t) (holds_diff a || holds_diff b) (e q)).1).0)))
        (whole b m (below b m (λ q. (or_parts (holds_diff a) (holds_diff b)
        (or_parts (holds_diff t) (holds_diff a || holds_diff b) (e q)).1).1))))

    each : (ts : TermTrees) (m : ℕ) → NoneLeft (hold_diff ts)
        → hold_diff (map_terms L m ts) ≡ false
    each nil m e = refl
    each (cons t ts) m e =
        or_neither (holds_diff (map_term L m t)) (hold_diff (map_terms L m ts))
        (whole t m (below t m (λ q. (or_parts (holds_diff t) (hold_diff ts) (e q)).0)))
        (each ts m (λ q. (or_parts (holds_diff t) (hold_diff ts) (e q)).1))

  pub no_diff : (t : TermTree) (m : ℕ) → (L.side ≡ Both → holds_diff t ≡ false)
      → holds_diff (map_term L m t) ≡ false
  no_diff t m e = whole t m (below t m e)
