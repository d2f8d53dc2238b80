-- How a certificate spells terms, timestamps and indices: as words, which a line parts by one
-- blank.
use Rattle.std.specs.Prelude.{ℕ, Bool, true, ◌&&◌, nat_lt, List, [], ◌∷◌, ◌++◌}
use Rattle.std.specs.Prelude.{length, codes, decimal}
use Rattle.sq_base.specs.declared.sort.Sort.{Sort}
use Rattle.sq_base.specs.declared.sort.Sort.TheVariants as sort
use Rattle.sq_term.specs.declared.term.Idx.{Idx}
use Rattle.sq_term.specs.declared.term.Idx.TheVariants as idx
use Rattle.sq_term.specs.declared.term.Macro.{Macro}
use Rattle.sq_term.specs.declared.term.Macro.TheVariants as macro_of
use Rattle.sq_term.specs.Measure.{count_terms}
use Rattle.sq_term.specs.Pure.{is_binder_sort}
use Rattle.sq_term.specs.Symbols.{function_number}
use Rattle.sq_term.specs.Syntax.{TsTree, free, bound, init, pred, action, TermTree, name, fun}
use Rattle.sq_term.specs.Syntax.{macro, schema, diff, le, ts_eq, idx_eq, happens, all, some, find}
use Rattle.sq_term.specs.Syntax.{TermTrees, nil, cons}

-- ---- words and lines

-- each word with a blank before it
abbrev pub blanked : List (List ℕ) → List ℕ
blanked [] = []
blanked (w ∷ ws) = 32 ∷ (w ++ blanked ws)

abbrev pub joined : List (List ℕ) → List ℕ
joined [] = []
joined (w ∷ ws) = w ++ blanked ws

-- ---- numbers with what stands before them

-- a number, and a number and a count
abbrev pub numbered : List ℕ → ℕ → List ℕ
numbered before k = before ++ decimal k

abbrev pub counted : List ℕ → ℕ → ℕ → List ℕ
counted before k n = before ++ (decimal k ++ 47 ∷ decimal n)

-- a function with its counts of indices and of terms
abbrev pub applied : ℕ → ℕ → ℕ → List ℕ
applied f n m = codes "f" ++ (decimal f ++ 47 ∷ (decimal n ++ 47 ∷ decimal m))

-- ---- single words

abbrev pub macro_word : Macro → List ℕ
macro_word macro_of.Input = codes "input"
macro_word macro_of.Output = codes "output"
macro_word macro_of.Cond = codes "cond"
macro_word macro_of.Exec = codes "exec"
macro_word macro_of.Frame = codes "frame"

-- A quantifier binds an index or a timestamp. One over another sort is not spelled.
abbrev pub universal_word : Sort → List ℕ
universal_word sort.Index = codes "Ai"
universal_word sort.Timestamp = codes "At"
universal_word sort.Message = []
universal_word sort.Boolean = []

abbrev pub existential_word : Sort → List ℕ
existential_word sort.Index = codes "Ei"
existential_word sort.Timestamp = codes "Et"
existential_word sort.Message = []
existential_word sort.Boolean = []

abbrev pub index_word : Idx → List ℕ
index_word (idx.Free k) = numbered (codes "x") k
index_word (idx.Bound k) = numbered (codes "b") k

-- ---- the words of indices, a timestamp and a term, in prefix order

abbrev pub index_words : List Idx → List (List ℕ)
index_words [] = []
index_words (i ∷ is) = index_word i ∷ index_words is

abbrev pub ts_words : TsTree → List (List ℕ)
ts_words (free k) = numbered (codes "x") k ∷ []
ts_words (bound k) = numbered (codes "b") k ∷ []
ts_words init = codes "init" ∷ []
ts_words (pred t) = codes "pred" ∷ ts_words t
ts_words (action a is) = counted (codes "a") a (length is) ∷ index_words is

abbrev mutual
  pub term_words : TermTree → List (List ℕ)
  term_words (name n is) = counted (codes "n") n (length is) ∷ index_words is
  term_words (fun f is ts) =
      applied (function_number f) (length is) (count_terms ts) ∷ (index_words is ++ all_words ts)
  term_words (macro m t) = macro_word m ∷ ts_words t
  term_words (schema k) = numbered (codes "s") k ∷ []
  term_words (diff a b) = codes "diff" ∷ (term_words a ++ term_words b)
  term_words (le a b) = codes "le" ∷ (ts_words a ++ ts_words b)
  term_words (ts_eq a b) = codes "teq" ∷ (ts_words a ++ ts_words b)
  term_words (idx_eq i j) = codes "ieq" ∷ index_word i ∷ index_word j ∷ []
  term_words (happens t) = codes "hap" ∷ ts_words t
  term_words (all s t) = universal_word s ∷ term_words t
  term_words (some s t) = existential_word s ∷ term_words t
  term_words (find c a b e) =
      numbered (codes "find") c ∷ (term_words a ++ (term_words b ++ term_words e))

  pub all_words : TermTrees → List (List ℕ)
  all_words nil = []
  all_words (cons t ts) = term_words t ++ all_words ts

-- ---- what is spelled

-- each number, and each count of a list, is below 2^32
abbrev pub is_small : ℕ → Bool
is_small n = nat_lt n 4294967296

abbrev pub index_fits : Idx → Bool
index_fits (idx.Free k) = is_small k
index_fits (idx.Bound k) = is_small k

abbrev pub indices_fit : List Idx → Bool
indices_fit [] = true
indices_fit (i ∷ is) = index_fits i && indices_fit is

abbrev pub ts_fits : TsTree → Bool
ts_fits (free k) = is_small k
ts_fits (bound k) = is_small k
ts_fits init = true
ts_fits (pred t) = ts_fits t
ts_fits (action a is) = is_small a && (is_small (length is) && indices_fit is)

abbrev mutual
  pub term_fits : TermTree → Bool
  term_fits (name n is) = is_small n && (is_small (length is) && indices_fit is)
  term_fits (fun f is ts) =
      is_small (function_number f) && ((is_small (length is) && indices_fit is)
      && (is_small (count_terms ts) && all_fit ts))
  term_fits (macro m t) = ts_fits t
  term_fits (schema k) = is_small k
  term_fits (diff a b) = term_fits a && term_fits b
  term_fits (le a b) = ts_fits a && ts_fits b
  term_fits (ts_eq a b) = ts_fits a && ts_fits b
  term_fits (idx_eq i j) = index_fits i && index_fits j
  term_fits (happens t) = ts_fits t
  term_fits (all s t) = term_fits t
  term_fits (some s t) = term_fits t
  term_fits (find c a b e) = is_small c && (term_fits a && (term_fits b && term_fits e))

  pub all_fit : TermTrees → Bool
  all_fit nil = true
  all_fit (cons t ts) = term_fits t && all_fit ts

-- each count of a list is
abbrev pub ts_counts_fit : TsTree → Bool
ts_counts_fit (free k) = true
ts_counts_fit (bound k) = true
ts_counts_fit init = true
ts_counts_fit (pred t) = ts_counts_fit t
ts_counts_fit (action a is) = is_small (length is)

abbrev mutual
  pub counts_fit : TermTree → Bool
  counts_fit (name n is) = is_small (length is)
  counts_fit (fun f is ts) =
      is_small (length is) && (is_small (count_terms ts) && all_counts_fit ts)
  counts_fit (macro m t) = ts_counts_fit t
  counts_fit (schema k) = true
  counts_fit (diff a b) = counts_fit a && counts_fit b
  counts_fit (le a b) = ts_counts_fit a && ts_counts_fit b
  counts_fit (ts_eq a b) = ts_counts_fit a && ts_counts_fit b
  counts_fit (idx_eq i j) = true
  counts_fit (happens t) = ts_counts_fit t
  counts_fit (all s t) = counts_fit t
  counts_fit (some s t) = counts_fit t
  counts_fit (find c a b e) = counts_fit a && (counts_fit b && counts_fit e)

  pub all_counts_fit : TermTrees → Bool
  all_counts_fit nil = true
  all_counts_fit (cons t ts) = counts_fit t && all_counts_fit ts

-- quantifiers bind indices and timestamps alone
abbrev mutual
  pub binds_alone : TermTree → Bool
  binds_alone (name n is) = true
  binds_alone (fun f is ts) = all_bind_alone ts
  binds_alone (macro m t) = true
  binds_alone (schema k) = true
  binds_alone (diff a b) = binds_alone a && binds_alone b
  binds_alone (le a b) = true
  binds_alone (ts_eq a b) = true
  binds_alone (idx_eq i j) = true
  binds_alone (happens t) = true
  binds_alone (all s t) = is_binder_sort s && binds_alone t
  binds_alone (some s t) = is_binder_sort s && binds_alone t
  binds_alone (find c a b e) = binds_alone a && (binds_alone b && binds_alone e)

  pub all_bind_alone : TermTrees → Bool
  all_bind_alone nil = true
  all_bind_alone (cons t ts) = binds_alone t && all_bind_alone ts
