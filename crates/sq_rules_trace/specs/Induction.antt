-- Induction over time.
use Rattle.std.specs.Prelude.{ℕ, Bool, true, ◌&&◌, ◌==◌, not}
use Rattle.sq_base.specs.declared.sort.Sort.TheVariants.{Timestamp}
use Rattle.sq_term.specs.Formulas.{negation, both, implies}
use Rattle.sq_term.specs.Syntax.{TsTree, free, bound, init, pred, action, TermTree, name, fun}
use Rattle.sq_term.specs.Syntax.{macro, schema, diff, le, ts_eq, idx_eq, happens, all, some, find}
use Rattle.sq_term.specs.Syntax.{TermTrees, nil, cons}
use Rattle.sq_subst.specs.Renaming.{closed_over}

-- g at every timestamp before variable v
abbrev pub earlier : ℕ → TermTree → TermTree
earlier v g =
    all Timestamp
    (implies (both (le (bound 0) (free v)) (negation (ts_eq (bound 0) (free v)))) (closed_over v g))

-- timestamp variable v stands at no place
abbrev pub time_is_free_of : ℕ → TsTree → Bool
time_is_free_of v (free k) = not (k == v)
time_is_free_of v (bound k) = true
time_is_free_of v init = true
time_is_free_of v (pred t) = time_is_free_of v t
time_is_free_of v (action n is) = true

abbrev mutual
  pub is_free_of : ℕ → TermTree → Bool
  is_free_of v (name n is) = true
  is_free_of v (fun f is ts) = are_free_of v ts
  is_free_of v (macro m t) = time_is_free_of v t
  is_free_of v (schema k) = true
  is_free_of v (diff a b) = is_free_of v a && is_free_of v b
  is_free_of v (le t s) = time_is_free_of v t && time_is_free_of v s
  is_free_of v (ts_eq t s) = time_is_free_of v t && time_is_free_of v s
  is_free_of v (idx_eq i j) = true
  is_free_of v (happens t) = time_is_free_of v t
  is_free_of v (all s t) = is_free_of v t
  is_free_of v (some s t) = is_free_of v t
  is_free_of v (find c t a b) = is_free_of v t && (is_free_of v a && is_free_of v b)

  pub are_free_of : ℕ → TermTrees → Bool
  are_free_of v nil = true
  are_free_of v (cons t ts) = is_free_of v t && are_free_of v ts
