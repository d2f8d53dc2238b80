-- Trace formulas: what is built from the order and equality of timestamps, equality of indices,
-- happening, the connectives and quantifiers over indices and timestamps alone.
use Rattle.std.specs.Prelude.{ℕ, Bool, true, false, ◌&&◌, ◌==◌, List, [], ◌∷◌}
use Rattle.sq_base.specs.declared.sort.Sort.{Sort}
use Rattle.sq_base.specs.declared.sort.Sort.TheVariants.{Message, Boolean, Index, Timestamp}
use Rattle.sq_term.specs.declared.term.Idx.{Idx}
use Rattle.sq_term.specs.Symbols.{Kind, truth, falsity, negation, conjunction, disjunction}
use Rattle.sq_term.specs.Symbols.{implication}
use Rattle.sq_term.specs.Measure.{count_terms}
use Rattle.sq_term.specs.Syntax.{TermTree, fun, le, ts_eq, idx_eq, happens, all, some, TermTrees}
use Rattle.sq_term.specs.Syntax.{nil, cons}

-- the function is a connective with this many arguments
abbrev pub is_connective : Kind → ℕ → Bool
is_connective truth n = n == 0
is_connective falsity n = n == 0
is_connective negation n = n == 1
is_connective conjunction n = n == 2
is_connective disjunction n = n == 2
is_connective implication n = n == 2
is_connective _ n = false

-- a quantifier binds an index or a timestamp
abbrev pub is_binder_sort : Sort → Bool
is_binder_sort Message = false
is_binder_sort Boolean = false
is_binder_sort Index = true
is_binder_sort Timestamp = true

abbrev pub has_no_indices : List Idx → Bool
has_no_indices [] = true
has_no_indices (i ∷ is) = false

abbrev mutual
  pub is_pure : TermTree → Bool
  is_pure (fun f is ts) = is_connective f (count_terms ts) && (has_no_indices is && are_pure ts)
  is_pure (le s t) = true
  is_pure (ts_eq s t) = true
  is_pure (idx_eq i j) = true
  is_pure (happens t) = true
  is_pure (all s t) = is_binder_sort s && is_pure t
  is_pure (some s t) = is_binder_sort s && is_pure t
  is_pure _ = false

  pub are_pure : TermTrees → Bool
  are_pure nil = true
  are_pure (cons t ts) = is_pure t && are_pure ts
