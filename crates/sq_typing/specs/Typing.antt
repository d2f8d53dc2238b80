-- Sorts of terms: which terms are well-sorted in a signature, over variables.
use Rattle.std.specs.Prelude.{ℕ, zero, suc, List, [], ◌∷◌, ◌++◌, Option, Some, None, Bool, true}
use Rattle.std.specs.Prelude.{false, ◌&&◌, ◌==◌, nat_lt, if◌then◌else◌, length, replicate}
use Rattle.std.specs.Prelude.{slice_get}
use Rattle.sq_base.specs.declared.sort.Sort.{Sort}
use Rattle.sq_base.specs.declared.sort.Sort.TheVariants.{Message, Boolean, Index, Timestamp}
use Rattle.sq_term.specs.declared.term.Idx.{Idx}
use Rattle.sq_term.specs.declared.term.Idx.TheVariants.{Free, Bound}
use Rattle.sq_term.specs.declared.term.Macro.{Macro}
use Rattle.sq_term.specs.declared.term.Macro.TheVariants.{Input, Output, Cond, Exec, Frame}
use Rattle.sq_term.specs.declared.signature.FunDecl.{FunDecl}
use Rattle.sq_term.specs.Macros.{macro_indices}
use Rattle.sq_term.specs.Measure.{count_terms}
use Rattle.sq_term.specs.Pure.{is_binder_sort}
use Rattle.sq_term.specs.Builtins.{takes_boolean}
use Rattle.sq_term.specs.Symbols.{Kind, function_number}
use Rattle.sq_term.specs.TreeEquality.{is_same_sort}
use Rattle.sq_term.specs.Syntax.{TsTree, free, bound, init, pred, action, TermTree, name, fun}
use Rattle.sq_term.specs.Syntax.{macro, schema, diff, le, ts_eq, idx_eq, happens, all, some, find}
use Rattle.sq_term.specs.Syntax.{TermTrees, nil, cons}

-- What a term may speak of: names with their counts of indices, functions, actions of one system
-- with their counts of indices, schema variables by their number, and variables with their sorts.
pub record Signature : Type 0 where
  pub names : List ℕ
  pub funs : List FunDecl
  pub actions : List ℕ
  pub schemas : ℕ
  pub vars : List Sort

-- the place of a list has this sort
abbrev pub has_sort_at : List Sort → ℕ → Sort → Bool
has_sort_at [] k s = false
has_sort_at (t ∷ ts) zero s = is_same_sort t s
has_sort_at (t ∷ ts) (suc k) s = has_sort_at ts k s

-- the place of a list holds this number
abbrev pub has_count_at : List ℕ → ℕ → ℕ → Bool
has_count_at [] k n = false
has_count_at (m ∷ ms) zero n = m == n
has_count_at (m ∷ ms) (suc k) n = has_count_at ms k n

-- bs are the sorts of the binders around, the innermost first
module _ (g : Signature) where
  abbrev pub is_index : List Sort → Idx → Bool
  is_index bs (Free k) = has_sort_at g.vars k Index
  is_index bs (Bound k) = has_sort_at bs k Index

  abbrev pub are_indices : List Sort → List Idx → Bool
  are_indices bs [] = true
  are_indices bs (i ∷ is) = is_index bs i && are_indices bs is

  abbrev pub is_timestamp : List Sort → TsTree → Bool
  is_timestamp bs (free k) = has_sort_at g.vars k Timestamp
  is_timestamp bs (bound k) = has_sort_at bs k Timestamp
  is_timestamp bs init = true
  is_timestamp bs (pred t) = is_timestamp bs t
  is_timestamp bs (action a is) = has_count_at g.actions a (length is) && are_indices bs is

-- the function with these counts of indices and arguments
abbrev pub applies : Option FunDecl → ℕ → ℕ → Bool
applies None i n = false
applies (Some d) i n = (d.idx == i) && (d.args == n)

-- the sort of its applications
abbrev pub result_sort : Option FunDecl → Sort
result_sort None = Index
result_sort (Some d) = d.result

abbrev pub macro_sort : Macro → Sort
macro_sort Input = Message
macro_sort Output = Message
macro_sort Cond = Boolean
macro_sort Exec = Boolean
macro_sort Frame = Message

-- the sort of argument k of a function, counted from 0
abbrev pub argument_sort : Kind → ℕ → Sort
argument_sort f k = if takes_boolean f k then Boolean else Message

-- the term has the sort
abbrev mutual
  pub has_sort : Signature → List Sort → Sort → TermTree → Bool
  has_sort g bs s (name n is) =
      is_same_sort Message s && (has_count_at g.names n (length is) && are_indices g bs is)
  has_sort g bs s (fun f is ts) =
      is_same_sort (result_sort (slice_get g.funs (function_number f))) s
      && (applies (slice_get g.funs (function_number f)) (length is) (count_terms ts)
      && (are_indices g bs is && have_sorts g bs f 0 ts))
  has_sort g bs s (macro m t) =
      is_same_sort (macro_sort m) s && (are_indices g bs (macro_indices m) && is_timestamp g bs t)
  has_sort g bs s (schema k) = is_same_sort Message s && nat_lt k g.schemas
  has_sort g bs s (diff a b) = has_sort g bs s a && has_sort g bs s b
  has_sort g bs s (le t u) =
      is_same_sort Boolean s && (is_timestamp g bs t && is_timestamp g bs u)
  has_sort g bs s (ts_eq t u) =
      is_same_sort Boolean s && (is_timestamp g bs t && is_timestamp g bs u)
  has_sort g bs s (idx_eq i j) = is_same_sort Boolean s && (is_index g bs i && is_index g bs j)
  has_sort g bs s (happens t) = is_same_sort Boolean s && is_timestamp g bs t
  has_sort g bs s (all b t) =
      is_same_sort Boolean s && (is_binder_sort b && has_sort g (b ∷ bs) Boolean t)
  has_sort g bs s (some b t) =
      is_same_sort Boolean s && (is_binder_sort b && has_sort g (b ∷ bs) Boolean t)
  has_sort g bs s (find c t a b) =
      is_same_sort Message s
      && (has_sort g (replicate c Index ++ bs) Boolean t
      && (has_sort g (replicate c Index ++ bs) Message a && has_sort g bs Message b))

  -- the arguments of function f from number k on
  pub have_sorts : Signature → List Sort → Kind → ℕ → TermTrees → Bool
  have_sorts g bs f k nil = true
  have_sorts g bs f k (cons t ts) =
      has_sort g bs (argument_sort f k) t && have_sorts g bs f (suc k) ts

-- quantifiers bind indices alone
abbrev mutual
  pub binds_indices : TermTree → Bool
  binds_indices (fun f is ts) = bind_indices ts
  binds_indices (diff a b) = binds_indices a && binds_indices b
  binds_indices (all s t) = is_same_sort s Index && binds_indices t
  binds_indices (some s t) = is_same_sort s Index && binds_indices t
  binds_indices (find c t a b) = binds_indices t && (binds_indices a && binds_indices b)
  binds_indices _ = true

  pub bind_indices : TermTrees → Bool
  bind_indices nil = true
  bind_indices (cons t ts) = binds_indices t && bind_indices ts
