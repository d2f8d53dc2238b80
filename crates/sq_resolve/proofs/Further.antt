-- A well-sorted term is well-sorted below more binders.
use Rattle.std.proofs.Common.{◌≡◌, ℕ, zero, suc, List, [], ◌∷◌, ◌++◌, length, Bool, true, false}
use Rattle.std.proofs.Common.{◌&&◌}
use Rattle.std.proofs.Common.{refl, sym, ap, subst}
use Rattle.std.specs.Prelude.{slice_get, replicate}
use Rattle.std.proofs.lemmas.Bool.{false≢true}
use Rattle.sq_base.specs.declared.sort.Sort.{Sort}
use Rattle.sq_base.specs.declared.sort.Sort.TheVariants.{Message, Boolean, Index, Timestamp}
use Rattle.sq_term.specs.declared.term.Idx.{Idx}
use Rattle.sq_term.specs.declared.term.Idx.TheVariants.{Free, Bound}
use Rattle.sq_term.specs.Macros.{macro_indices}
use Rattle.sq_term.specs.Measure.{count_terms}
use Rattle.sq_term.specs.Pure.{is_binder_sort}
use Rattle.sq_term.specs.Symbols.{Kind, function_number}
use Rattle.sq_term.specs.Syntax.{TsTree, free, bound, init, pred, action, TermTree, name, fun}
use Rattle.sq_term.specs.Syntax.{macro, schema, diff, le, ts_eq, idx_eq, happens, all, some, find}
use Rattle.sq_term.specs.Syntax.{TermTrees, nil, cons}
use Rattle.sq_term.specs.TreeEquality.{is_same_sort}
use Rattle.sq_term.proofs.BoolTests.{and_split, and_both}
use Rattle.sq_typing.specs.Typing.{Signature, has_sort_at, has_count_at, is_index, are_indices}
use Rattle.sq_typing.specs.Typing.{is_timestamp, applies, result_sort, argument_sort, macro_sort}
use Rattle.sq_typing.specs.Typing.{has_sort, have_sorts}

-- both tests pass where their parts do
pub both_pass : (a b x y : Bool) → (a ≡ true → x ≡ true) → (b ≡ true → y ≡ true) → (a && b) ≡ true
    → (x && y) ≡ true
both_pass a b x y f h e = let p = and_split a b e in and_both x y (f p.0) (h p.1)

-- the first test stays
pub first_stays : (a b y : Bool) → (b ≡ true → y ≡ true) → (a && b) ≡ true → (a && y) ≡ true
first_stays a b y h e = let p = and_split a b e in and_both a y p.0 (h p.1)

pub place_further : (more bs : List Sort) (k : ℕ) (s : Sort) → has_sort_at bs k s ≡ true
    → has_sort_at (bs ++ more) k s ≡ true
place_further more [] k s e = absurd (false≢true e)
place_further more (b ∷ bs) zero s e = e
place_further more (b ∷ bs) (suc k) s e = place_further more bs k s e

binders_further : (n : ℕ) (bs more : List Sort)
    → replicate n Index ++ (bs ++ more) ≡ (replicate n Index ++ bs) ++ more
binders_further zero bs more = refl
binders_further (suc n) bs more = ap (λ l. Index ∷ l) (binders_further n bs more)

module _ (g : Signature) (more : List Sort) where
  index_further : (bs : List Sort) (i : Idx) → is_index g bs i ≡ true
      → is_index g (bs ++ more) i ≡ true
  index_further bs (Free k) e = e
  index_further bs (Bound k) e = place_further more bs k Index e

  indices_further : (bs : List Sort) (is : List Idx) → are_indices g bs is ≡ true
      → are_indices g (bs ++ more) is ≡ true
  indices_further bs [] e = refl
  indices_further bs (i ∷ is) e =
      both_pass (is_index g bs i) (are_indices g bs is) (is_index g (bs ++ more) i)
      (are_indices g (bs ++ more) is) (index_further bs i) (indices_further bs is) e

  time_further : (bs : List Sort) (t : TsTree) → is_timestamp g bs t ≡ true
      → is_timestamp g (bs ++ more) t ≡ true
  time_further bs (free k) e = e
  time_further bs (bound k) e = place_further more bs k Timestamp e
  time_further bs init e = refl
  time_further bs (pred t) e = time_further bs t e
  time_further bs (action a is) e =
      first_stays (has_count_at g.actions a (length is)) (are_indices g bs is)
      (are_indices g (bs ++ more) is) (indices_further bs is) e

  mutual
    term_further : (bs : List Sort) (s : Sort) (t : TermTree) → has_sort g bs s t ≡ true
        → has_sort g (bs ++ more) s t ≡ true
    term_further bs s (name n is) e =
        first_stays (is_same_sort Message s)
        (has_count_at g.names n (length is) && are_indices g bs is)
        (has_count_at g.names n (length is) && are_indices g (bs ++ more) is)
        (first_stays (has_count_at g.names n (length is)) (are_indices g bs is)
        (are_indices g (bs ++ more) is) (indices_further bs is)) e
    term_further bs s (fun f is ts) e =
        let o = slice_get g.funs (function_number f) in
        first_stays (is_same_sort (result_sort o) s)
        (applies o (length is) (count_terms ts)
        && (are_indices g bs is && have_sorts g bs f 0 ts))
        (applies o (length is) (count_terms ts)
        && (are_indices g (bs ++ more) is && have_sorts g (bs ++ more) f 0 ts))
        (first_stays (applies o (length is) (count_terms ts))
        (are_indices g bs is && have_sorts g bs f 0 ts)
        (are_indices g (bs ++ more) is && have_sorts g (bs ++ more) f 0 ts)
        (both_pass (are_indices g bs is) (have_sorts g bs f 0 ts) (are_indices g (bs ++ more) is)
        (have_sorts g (bs ++ more) f 0 ts) (indices_further bs is) (terms_further bs f 0 ts))) e
    term_further bs s (macro m t) e =
        first_stays (is_same_sort (macro_sort m) s)
        (are_indices g bs (macro_indices m) && is_timestamp g bs t)
        (are_indices g (bs ++ more) (macro_indices m) && is_timestamp g (bs ++ more) t)
        (both_pass (are_indices g bs (macro_indices m)) (is_timestamp g bs t)
        (are_indices g (bs ++ more) (macro_indices m)) (is_timestamp g (bs ++ more) t)
        (indices_further bs (macro_indices m)) (time_further bs t)) e
    term_further bs s (schema k) e = e
    term_further bs s (diff a b) e =
        both_pass (has_sort g bs s a) (has_sort g bs s b) (has_sort g (bs ++ more) s a)
        (has_sort g (bs ++ more) s b) (term_further bs s a) (term_further bs s b) e
    term_further bs s (le t u) e =
        first_stays (is_same_sort Boolean s) (is_timestamp g bs t && is_timestamp g bs u)
        (is_timestamp g (bs ++ more) t && is_timestamp g (bs ++ more) u)
        (both_pass (is_timestamp g bs t) (is_timestamp g bs u) (is_timestamp g (bs ++ more) t)
        (is_timestamp g (bs ++ more) u) (time_further bs t) (time_further bs u)) e
    term_further bs s (ts_eq t u) e =
        first_stays (is_same_sort Boolean s) (is_timestamp g bs t && is_timestamp g bs u)
        (is_timestamp g (bs ++ more) t && is_timestamp g (bs ++ more) u)
        (both_pass (is_timestamp g bs t) (is_timestamp g bs u) (is_timestamp g (bs ++ more) t)
        (is_timestamp g (bs ++ more) u) (time_further bs t) (time_further bs u)) e
    term_further bs s (idx_eq i j) e =
        first_stays (is_same_sort Boolean s) (is_index g bs i && is_index g bs j)
        (is_index g (bs ++ more) i && is_index g (bs ++ more) j)
        (both_pass (is_index g bs i) (is_index g bs j) (is_index g (bs ++ more) i)
        (is_index g (bs ++ more) j) (index_further bs i) (index_further bs j)) e
    term_further bs s (happens t) e =
        first_stays (is_same_sort Boolean s) (is_timestamp g bs t) (is_timestamp g (bs ++ more) t)
        (time_further bs t) e
    term_further bs s (all b t) e =
        first_stays (is_same_sort Boolean s) (is_binder_sort b && has_sort g (b ∷ bs) Boolean t)
        (is_binder_sort b && has_sort g (b ∷ (bs ++ more)) Boolean t)
        (first_stays (is_binder_sort b) (has_sort g (b ∷ bs) Boolean t)
        (has_sort g (b ∷ (bs ++ more)) Boolean t) (term_further (b ∷ bs) Boolean t)) e
    term_further bs s (some b t) e =
        first_stays (is_same_sort Boolean s) (is_binder_sort b && has_sort g (b ∷ bs) Boolean t)
        (is_binder_sort b && has_sort g (b ∷ (bs ++ more)) Boolean t)
        (first_stays (is_binder_sort b) (has_sort g (b ∷ bs) Boolean t)
        (has_sort g (b ∷ (bs ++ more)) Boolean t) (term_further (b ∷ bs) Boolean t)) e
    term_further bs s (find n t u v) e =
        let inner = replicate n Index ++ bs in
        let outer = replicate n Index ++ (bs ++ more) in
        first_stays (is_same_sort Message s)
        (has_sort g inner Boolean t && (has_sort g inner Message u && has_sort g bs Message v))
        (has_sort g outer Boolean t
        && (has_sort g outer Message u && has_sort g (bs ++ more) Message v))
        (both_pass (has_sort g inner Boolean t)
        (has_sort g inner Message u && has_sort g bs Message v) (has_sort g outer Boolean t)
        (has_sort g outer Message u && has_sort g (bs ++ more) Message v)
        (λ h. subst (λ (l : List Sort). has_sort g l Boolean t ≡ true)
        (sym (binders_further n bs more)) (term_further inner Boolean t h))
        (both_pass (has_sort g inner Message u) (has_sort g bs Message v)
        (has_sort g outer Message u) (has_sort g (bs ++ more) Message v)
        (λ h. subst (λ (l : List Sort). has_sort g l Message u ≡ true)
        (sym (binders_further n bs more)) (term_further inner Message u h))
        (term_further bs Message v))) e

    terms_further : (bs : List Sort) (f : Kind) (k : ℕ) (ts : TermTrees)
        → have_sorts g bs f k ts ≡ true → have_sorts g (bs ++ more) f k ts ≡ true
    terms_further bs f k nil e = refl
    terms_further bs f k (cons t ts) e =
        both_pass (has_sort g bs (argument_sort f k) t) (have_sorts g bs f (suc k) ts)
        (has_sort g (bs ++ more) (argument_sort f k) t) (have_sorts g (bs ++ more) f (suc k) ts)
        (term_further bs (argument_sort f k) t) (terms_further bs f (suc k) ts) e

  -- one that needs no binders
  pub closed_further : (s : Sort) (t : TermTree) → has_sort g [] s t ≡ true
      → has_sort g more s t ≡ true
  closed_further s t e = term_further [] s t e
