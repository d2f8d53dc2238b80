-- A well-sorted term names only the variables of its signature.
use Rattle.std.proofs.Common.{◌≡◌, ℕ, zero, suc, ◌<◌, ◌++◌, List, [], ◌∷◌, length, true, false}
use Rattle.std.proofs.Common.{arith}
use Rattle.std.specs.Prelude.{slice_get, replicate}
use Rattle.sq_base.specs.declared.sort.Sort.{Sort}
use Rattle.sq_base.specs.declared.sort.Sort.TheVariants.{Message, Boolean, Index, Timestamp}
use Rattle.sq_term.specs.declared.term.Idx.{Idx}
use Rattle.sq_term.specs.declared.term.Idx.TheVariants.{Free, Bound}
use Rattle.sq_term.specs.Lists.{Each}
use Rattle.sq_term.specs.Macros.{macro_indices}
use Rattle.sq_term.specs.Measure.{count_terms}
use Rattle.sq_term.specs.Pure.{is_binder_sort}
use Rattle.sq_term.specs.Symbols.{Kind, function_number}
use Rattle.sq_term.specs.Syntax.{TsTree, free, bound, init, pred, action, TermTree, name, fun}
use Rattle.sq_term.specs.Syntax.{macro, schema, diff, le, ts_eq, idx_eq, happens, all, some, find}
use Rattle.sq_term.specs.Syntax.{TermTrees, nil, cons}
use Rattle.sq_term.specs.TreeEquality.{is_same_sort}
use Rattle.sq_term.specs.Within.{IdxWithin, TsWithin, IsWithin, AreWithin}
use Rattle.sq_term.proofs.Members.{each_none, each_cons}
use Rattle.sq_term.proofs.BoolTests.{and_split}
use Rattle.sq_typing.specs.Typing.{Signature, has_sort_at, has_count_at, is_index, are_indices}
use Rattle.sq_typing.specs.Typing.{is_timestamp, applies, result_sort, macro_sort, argument_sort}
use Rattle.sq_typing.specs.Typing.{has_sort, have_sorts}

place_within : (vs : List Sort) (k : ℕ) (s : Sort) → has_sort_at vs k s ≡ true → k < length vs
place_within [] k s h = let z : false ≡ true = h in absurd (cc)
place_within (v ∷ vs) zero s h = omega arith
place_within (v ∷ vs) (suc k) s h = let l : k < length vs = place_within vs k s h in omega arith

module _ (g : Signature) where
  index_within : (bs : List Sort) (i : Idx) → is_index g bs i ≡ true → IdxWithin (length g.vars) i
  index_within bs (Free k) h = place_within g.vars k Index h
  index_within bs (Bound k) h = tt

  indices_within : (bs : List Sort) (is : List Idx) → are_indices g bs is ≡ true
      → Each (IdxWithin (length g.vars)) is
  indices_within bs [] h = each_none (IdxWithin (length g.vars))
  indices_within bs (i ∷ is) h =
      let p = and_split (is_index g bs i) (are_indices g bs is) h in
      each_cons i is (IdxWithin (length g.vars)) (index_within bs i p.0)
      (indices_within bs is p.1)

  time_within : (bs : List Sort) (t : TsTree) → is_timestamp g bs t ≡ true
      → TsWithin (length g.vars) t
  time_within bs (free k) h = place_within g.vars k Timestamp h
  time_within bs (bound k) h = tt
  time_within bs init h = tt
  time_within bs (pred t) h = time_within bs t h
  time_within bs (action a is) h =
      indices_within bs is
      (and_split (has_count_at g.actions a (length is)) (are_indices g bs is) h).1

  mutual
    pub sorted_within : (bs : List Sort) (s : Sort) (t : TermTree) → has_sort g bs s t ≡ true
        → IsWithin (length g.vars) t
    sorted_within bs s (name n is) h =
        indices_within bs is
        (and_split (has_count_at g.names n (length is)) (are_indices g bs is)
        (and_split (is_same_sort Message s) _ h).1).1
    sorted_within bs s (fun f is ts) h =
        let p = and_split
        (is_same_sort (result_sort (slice_get g.funs (function_number f))) s) _ h in
        let q = and_split
        (applies (slice_get g.funs (function_number f)) (length is) (count_terms ts)) _ p.1 in
        let r = and_split (are_indices g bs is) (have_sorts g bs f 0 ts) q.1 in
        (indices_within bs is r.0, all_within bs f 0 ts r.1)
    sorted_within bs s (macro m t) h =
        let p = and_split (are_indices g bs (macro_indices m)) (is_timestamp g bs t)
        (and_split (is_same_sort (macro_sort m) s) _ h).1 in
        (indices_within bs (macro_indices m) p.0, time_within bs t p.1)
    sorted_within bs s (schema k) h = tt
    sorted_within bs s (diff a b) h = let p = and_split (has_sort g bs s a) (has_sort g bs s b) h in
        (sorted_within bs s a p.0, sorted_within bs s b p.1)
    sorted_within bs s (le t u) h =
        let p = and_split (is_timestamp g bs t) (is_timestamp g bs u)
        (and_split (is_same_sort Boolean s) _ h).1 in
        (time_within bs t p.0, time_within bs u p.1)
    sorted_within bs s (ts_eq t u) h =
        let p = and_split (is_timestamp g bs t) (is_timestamp g bs u)
        (and_split (is_same_sort Boolean s) _ h).1 in
        (time_within bs t p.0, time_within bs u p.1)
    sorted_within bs s (idx_eq i j) h =
        let p = and_split (is_index g bs i) (is_index g bs j)
        (and_split (is_same_sort Boolean s) _ h).1 in
        (index_within bs i p.0, index_within bs j p.1)
    sorted_within bs s (happens t) h =
        time_within bs t (and_split (is_same_sort Boolean s) (is_timestamp g bs t) h).1
    sorted_within bs s (all b t) h =
        sorted_within (b ∷ bs) Boolean t
        (and_split (is_binder_sort b) (has_sort g (b ∷ bs) Boolean t)
        (and_split (is_same_sort Boolean s) _ h).1).1
    sorted_within bs s (some b t) h =
        sorted_within (b ∷ bs) Boolean t
        (and_split (is_binder_sort b) (has_sort g (b ∷ bs) Boolean t)
        (and_split (is_same_sort Boolean s) _ h).1).1
    sorted_within bs s (find c t a b) h =
        let p = and_split (has_sort g (replicate c Index ++ bs) Boolean t) _
        (and_split (is_same_sort Message s) _ h).1 in
        let q = and_split (has_sort g (replicate c Index ++ bs) Message a)
        (has_sort g bs Message b) p.1 in (
          sorted_within (replicate c Index ++ bs) Boolean t p.0,
          sorted_within
              (replicate c Index ++ bs) Message a q.0,
          sorted_within bs Message b q.1,
        )

    all_within : (bs : List Sort) (f : Kind) (k : ℕ) (ts : TermTrees)
        → have_sorts g bs f k ts ≡ true → AreWithin (length g.vars) ts
    all_within bs f k nil h = tt
    all_within bs f k (cons t ts) h =
        let p = and_split (has_sort g bs (argument_sort f k) t) (have_sorts g bs f (suc k) ts) h in
        (sorted_within bs (argument_sort f k) t p.0, all_within bs f (suc k) ts p.1)
