-- Where the two sides of a term differ.
use Rattle.std.specs.Prelude.{Bool, true, false, ◌||◌}
use Rattle.sq_term.specs.Syntax.{TermTree, name, fun, macro, schema, diff, le, ts_eq, idx_eq}
use Rattle.sq_term.specs.Syntax.{happens, all, some, find, TermTrees, nil, cons}

-- a `diff` stands somewhere in the term
abbrev mutual
  pub holds_diff : TermTree → Bool
  holds_diff (name s is) = false
  holds_diff (fun f is ts) = hold_diff ts
  holds_diff (macro r t) = false
  holds_diff (schema s) = false
  holds_diff (diff a b) = true
  holds_diff (le a b) = false
  holds_diff (ts_eq a b) = false
  holds_diff (idx_eq i j) = false
  holds_diff (happens t) = false
  holds_diff (all s t) = holds_diff t
  holds_diff (some s t) = holds_diff t
  holds_diff (find c t a b) = holds_diff t || (holds_diff a || holds_diff b)

  pub hold_diff : TermTrees → Bool
  hold_diff nil = false
  hold_diff (cons t ts) = holds_diff t || hold_diff ts
