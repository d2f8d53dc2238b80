-- A well-sorted term whose finds bind can be written: none of its quantifiers binds a Boolean.
use Rattle.std.proofs.Common.{◌≡◌, ◌≢◌, ℕ, suc, true, ◌&&◌, List, ◌∷◌, ◌++◌, replicate, length}
use Rattle.std.proofs.Common.{slice_get}
use Rattle.sq_base.specs.declared.sort.Sort.{Sort}
use Rattle.sq_base.specs.declared.sort.Sort.TheVariants.{Message, Boolean, Index, Timestamp}
use Rattle.std.proofs.lemmas.Bool.{and_parts}
use Rattle.sq_term.specs.Syntax.{TermTree, name, fun, macro, schema, diff, le, ts_eq, idx_eq}
use Rattle.sq_term.specs.Syntax.{happens, all, some, find, TermTrees, nil, cons}
use Rattle.sq_term.specs.TreeEquality.{is_same_sort}
use Rattle.sq_term.specs.Measure.{count_terms}
use Rattle.sq_term.specs.Pure.{is_binder_sort}
use Rattle.sq_term.specs.Symbols.{Kind, function_number}
use Rattle.sq_typing.specs.Typing.{Signature, has_sort, have_sorts, argument_sort, result_sort}
use Rattle.sq_typing.specs.Typing.{applies, are_indices}
use Rattle.sq_printed.specs.Trees.{IsWritable, AreWritable}
use Rattle.sq_readback.specs.Readable.{FindsBind, AllFindsBind}

no_boolean : (b : Sort) → is_binder_sort b ≡ true → b ≢ Boolean
no_boolean Message e same = cc
no_boolean Boolean e same = cc
no_boolean Index e same = cc
no_boolean Timestamp e same = cc

mutual
  pub writable : (g : Signature) (ss : List Sort) (s : Sort) (t : TermTree)
      → has_sort g ss s t ≡ true → FindsBind t → IsWritable t
  writable g ss s (name n is) h f = tt
  writable g ss s (fun k is ts) h f =
      let a = and_parts
      (is_same_sort (result_sort (slice_get g.funs (function_number k))) s) _ h in
      let b = and_parts
      (applies (slice_get g.funs (function_number k)) (length is) (count_terms ts)) _ a.1 in
      let d = and_parts (are_indices g ss is) (have_sorts g ss k 0 ts) b.1 in
      all_writable g ss k 0 ts d.1 f
  writable g ss s (macro m t) h f = tt
  writable g ss s (schema k) h f = tt
  writable g ss s (diff a b) h f = let p = and_parts (has_sort g ss s a) (has_sort g ss s b) h in
      (writable g ss s a p.0 f.0, writable g ss s b p.1 f.1)
  writable g ss s (le a b) h f = tt
  writable g ss s (ts_eq a b) h f = tt
  writable g ss s (idx_eq a b) h f = tt
  writable g ss s (happens t) h f = tt
  writable g ss s (all b t) h f =
      let p = and_parts (is_binder_sort b) (has_sort g (b ∷ ss) Boolean t)
      (and_parts (is_same_sort Boolean s) _ h).1 in
      (no_boolean b p.0, writable g (b ∷ ss) Boolean t p.1 f)
  writable g ss s (some b t) h f =
      let p = and_parts (is_binder_sort b) (has_sort g (b ∷ ss) Boolean t)
      (and_parts (is_same_sort Boolean s) _ h).1 in
      (no_boolean b p.0, writable g (b ∷ ss) Boolean t p.1 f)
  writable g ss s (find n t u v) h f =
      let inside = replicate n Index ++ ss in
      let b = and_parts (has_sort g inside Boolean t)
      (has_sort g inside Message u && has_sort g ss Message v)
      (and_parts (is_same_sort Message s) _ h).1 in
      let d = and_parts (has_sort g inside Message u) (has_sort g ss Message v) b.1 in (
        f.0,
        writable g inside Boolean t b.0 f.1,
        writable g inside Message u d.0 f.2,
        writable g ss
            Message v d.1 f.3,
      )

  all_writable : (g : Signature) (ss : List Sort) (f : Kind) (k : ℕ) (ts : TermTrees)
      → have_sorts g ss f k ts ≡ true → AllFindsBind ts → AreWritable ts
  all_writable g ss f k nil h b = tt
  all_writable g ss f k (cons t ts) h b =
      let p = and_parts (has_sort g ss (argument_sort f k) t) (have_sorts g ss f (suc k) ts) h in
      (writable g ss (argument_sort f k) t p.0 b.0, all_writable g ss f (suc k) ts p.1 b.1)
