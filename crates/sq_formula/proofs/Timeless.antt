-- A term that does not speak of time has its sort whatever the actions of the system are.
use Rattle.std.proofs.Common.{◌≡◌, ℕ, suc, refl, List, [], ◌∷◌, ◌++◌, length, Bool, true, false}
use Rattle.std.proofs.Common.{◌||◌}
use Rattle.std.specs.Prelude.{slice_get, replicate}
use Rattle.sq_base.specs.declared.sort.Sort.{Sort}
use Rattle.sq_base.specs.declared.sort.Sort.TheVariants.{Message, Boolean, Index}
use Rattle.sq_term.specs.declared.term.Idx.{Idx}
use Rattle.sq_term.specs.declared.term.Idx.TheVariants.{Free, Bound}
use Rattle.sq_term.specs.Measure.{count_terms}
use Rattle.sq_term.specs.Pure.{is_binder_sort}
use Rattle.sq_term.specs.Symbols.{Kind, function_number}
use Rattle.sq_term.specs.Syntax.{TermTree, name, fun, macro, schema, diff, le, ts_eq, idx_eq}
use Rattle.sq_term.specs.Syntax.{happens, all, some, find, TermTrees, nil, cons}
use Rattle.sq_term.specs.TreeEquality.{is_same_sort}
use Rattle.sq_typing.specs.Typing.{Signature, has_count_at, is_index, are_indices, argument_sort}
use Rattle.sq_typing.specs.Typing.{has_sort, have_sorts}
use Rattle.sq_system.specs.Usable.{is_timestamp, speaks_of_time, speak_of_time}
use Rattle.sq_formula.proofs.KeptSorts.{both_kept, application_kept}

-- the signature with other actions
abbrev pub with_actions : Signature → List ℕ → Signature
with_actions g actions =
    record { names = g.names; funs = g.funs; actions = actions; schemas = g.schemas; vars = g.vars }

left_none : (a b : Bool) → (a || b) ≡ false → a ≡ false
left_none true b e = cc
left_none false b e = refl

right_none : (a b : Bool) → (a || b) ≡ false → b ≡ false
right_none true b e = cc
right_none false b e = e

module _ (g : Signature) (actions : List ℕ) where
  abbrev h : Signature
  h = with_actions g actions

  index_there : (bs : List Sort) (i : Idx) → is_index g bs i ≡ true → is_index h bs i ≡ true
  index_there bs (Free k) e = e
  index_there bs (Bound k) e = e

  indices_there : (bs : List Sort) (is : List Idx) → are_indices g bs is ≡ true
      → are_indices h bs is ≡ true
  indices_there bs [] e = refl
  indices_there bs (i ∷ is) e =
      both_kept (is_index g bs i) (are_indices g bs is) (is_index h bs i) (are_indices h bs is)
      (index_there bs i) (indices_there bs is) e

  mutual
    pub timeless_sort : (bs : List Sort) (s : Sort) (t : TermTree) → speaks_of_time t ≡ false
        → has_sort g bs s t ≡ true → has_sort h bs s t ≡ true
    timeless_sort bs s (name k is) n e =
        both_kept (is_same_sort Message s) _ (is_same_sort Message s) _ (λ q. q)
        (both_kept (has_count_at g.names k (length is)) (are_indices g bs is)
        (has_count_at g.names k (length is)) (are_indices h bs is) (λ q. q)
        (indices_there bs is)) e
    timeless_sort bs s (fun f is ts) n e =
        application_kept g h s (length is) (count_terms ts) (length is) (count_terms ts)
        (slice_get g.funs (function_number f))
        (are_indices g bs is) (have_sorts g bs f 0 ts) (are_indices h bs is)
        (have_sorts h bs f 0 ts) refl refl (indices_there bs is) (timeless_sorts bs f 0 ts n) e
    timeless_sort bs s (macro x t) n e = let z : true ≡ false = n in absurd (cc)
    timeless_sort bs s (schema k) n e = e
    timeless_sort bs s (diff a b) n e =
        both_kept (has_sort g bs s a) (has_sort g bs s b) (has_sort h bs s a) (has_sort h bs s b)
        (timeless_sort bs s a (left_none (speaks_of_time a) _ n))
        (timeless_sort bs s b (right_none (speaks_of_time a) _ n)) e
    timeless_sort bs s (le t u) n e = let z : true ≡ false = n in absurd (cc)
    timeless_sort bs s (ts_eq t u) n e = let z : true ≡ false = n in absurd (cc)
    timeless_sort bs s (idx_eq i j) n e =
        both_kept (is_same_sort Boolean s) _ (is_same_sort Boolean s) _ (λ q. q)
        (both_kept (is_index g bs i) (is_index g bs j) (is_index h bs i) (is_index h bs j)
        (index_there bs i) (index_there bs j)) e
    timeless_sort bs s (happens t) n e = let z : true ≡ false = n in absurd (cc)
    timeless_sort bs s (all b t) n e =
        both_kept (is_same_sort Boolean s) _ (is_same_sort Boolean s) _ (λ q. q)
        (both_kept (is_binder_sort b) (has_sort g (b ∷ bs) Boolean t) (is_binder_sort b)
        (has_sort h (b ∷ bs) Boolean t) (λ q. q)
        (timeless_sort (b ∷ bs) Boolean t (right_none (is_timestamp b) _ n))) e
    timeless_sort bs s (some b t) n e =
        both_kept (is_same_sort Boolean s) _ (is_same_sort Boolean s) _ (λ q. q)
        (both_kept (is_binder_sort b) (has_sort g (b ∷ bs) Boolean t) (is_binder_sort b)
        (has_sort h (b ∷ bs) Boolean t) (λ q. q)
        (timeless_sort (b ∷ bs) Boolean t (right_none (is_timestamp b) _ n))) e
    timeless_sort bs s (find c t a b) n e =
        let rest = right_none (speaks_of_time t) _ n in
        both_kept (is_same_sort Message s) _ (is_same_sort Message s) _ (λ q. q)
        (both_kept (has_sort g (replicate c Index ++ bs) Boolean t) _
        (has_sort h (replicate c Index ++ bs) Boolean t) _
        (timeless_sort (replicate c Index ++ bs) Boolean t (left_none (speaks_of_time t) _ n))
        (both_kept (has_sort g (replicate c Index ++ bs) Message a) (has_sort g bs Message b)
        (has_sort h (replicate c Index ++ bs) Message a) (has_sort h bs Message b)
        (timeless_sort (replicate c Index ++ bs) Message a (left_none (speaks_of_time a) _ rest))
        (timeless_sort bs Message b (right_none (speaks_of_time a) _ rest)))) e

    timeless_sorts : (bs : List Sort) (f : Kind) (k : ℕ) (ts : TermTrees) → speak_of_time ts ≡ false
        → have_sorts g bs f k ts ≡ true → have_sorts h bs f k ts ≡ true
    timeless_sorts bs f k nil n e = refl
    timeless_sorts bs f k (cons t ts) n e =
        both_kept (has_sort g bs (argument_sort f k) t) (have_sorts g bs f (suc k) ts)
        (has_sort h bs (argument_sort f k) t) (have_sorts h bs f (suc k) ts)
        (timeless_sort bs (argument_sort f k) t (left_none (speaks_of_time t) _ n))
        (timeless_sorts bs f (suc k) ts (right_none (speaks_of_time t) _ n)) e
