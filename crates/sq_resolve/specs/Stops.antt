-- The nodes of a formula in preorder, and the first at which the walk over a process stops.
use Rattle.std.specs.Prelude.{ℕ, suc, List, [], ◌∷◌, ◌++◌, Option, Some, None, Result, Ok, Err}
use Rattle.std.specs.Prelude.{Bool, true, false, ◌||◌, if◌then◌else◌}
use Rattle.sq_base.specs.declared.sort.Sort.TheVariants.{Timestamp}
use Rattle.sq_ast.specs.declared.formula.Constant.TheVariants.{Init}
use Rattle.sq_ast.specs.declared.formula.Unary.TheVariants.{Happens, Pred}
use Rattle.sq_ast.specs.Tree.{Group, FormulaTree, quantified, binary, group, pair, constant}
use Rattle.sq_ast.specs.Tree.{conditional, find, diff, unary, value, name, apply, FormulaTrees}
use Rattle.sq_ast.specs.Tree.{none, more}
use Rattle.sq_term.specs.TreeEquality.{is_same_sort}
use Rattle.sq_resolve.specs.declared.stopped.Stopped.{Stopped}
use Rattle.sq_resolve.specs.declared.stopped.Stopped.TheVariants.{Time, Limit}
use Rattle.sq_resolve.specs.Built.{within_limits}

-- the nodes of a tree in preorder with their depths, where its root has depth d
abbrev mutual
  pub nodes : ℕ → FormulaTree → List (FormulaTree × ℕ)
  nodes d (quantified q gs a) = (quantified q gs a, d) ∷ nodes (suc d) a
  nodes d (binary o a b) = (binary o a b, d) ∷ (nodes (suc d) a ++ nodes (suc d) b)
  nodes d (group a) = (group a, d) ∷ nodes (suc d) a
  nodes d (pair a b) = (pair a b, d) ∷ (nodes (suc d) a ++ nodes (suc d) b)
  nodes d (constant k) = (constant k, d) ∷ []
  nodes d (conditional a b c) =
      (conditional a b c, d) ∷ (nodes (suc d) a ++ (nodes (suc d) b ++ nodes (suc d) c))
  nodes d (find ns a b c) =
      (find ns a b c, d) ∷ (nodes (suc d) a ++ (nodes (suc d) b ++ nodes (suc d) c))
  nodes d (diff a b) = (diff a b, d) ∷ (nodes (suc d) a ++ nodes (suc d) b)
  nodes d (unary u a) = (unary u a, d) ∷ nodes (suc d) a
  nodes d (value w a) = (value w a, d) ∷ nodes (suc d) a
  nodes d (name x) = (name x, d) ∷ []
  nodes d (apply x xs) = (apply x xs, d) ∷ all_nodes (suc d) xs

  pub all_nodes : ℕ → FormulaTrees → List (FormulaTree × ℕ)
  all_nodes d none = []
  all_nodes d (more a xs) = nodes d a ++ all_nodes d xs

-- the depths of the nodes alone
abbrev mutual
  pub levels : ℕ → FormulaTree → List ℕ
  levels d (quantified q gs a) = d ∷ levels (suc d) a
  levels d (binary o a b) = d ∷ (levels (suc d) a ++ levels (suc d) b)
  levels d (group a) = d ∷ levels (suc d) a
  levels d (pair a b) = d ∷ (levels (suc d) a ++ levels (suc d) b)
  levels d (constant k) = d ∷ []
  levels d (conditional a b c) =
      d ∷ (levels (suc d) a ++ (levels (suc d) b ++ levels (suc d) c))
  levels d (find ns a b c) = d ∷ (levels (suc d) a ++ (levels (suc d) b ++ levels (suc d) c))
  levels d (diff a b) = d ∷ (levels (suc d) a ++ levels (suc d) b)
  levels d (unary u a) = d ∷ levels (suc d) a
  levels d (value w a) = d ∷ levels (suc d) a
  levels d (name x) = d ∷ []
  levels d (apply x xs) = d ∷ all_levels (suc d) xs

  pub all_levels : ℕ → FormulaTrees → List ℕ
  all_levels d none = []
  all_levels d (more a xs) = levels d a ++ all_levels d xs

-- ---- a form that no process may have

abbrev pub bind_timestamp : List Group → Bool
bind_timestamp [] = false
bind_timestamp (g ∷ gs) = is_same_sort g.1 Timestamp || bind_timestamp gs

-- it speaks of time
abbrev pub speaks_of_time : FormulaTree → Bool
speaks_of_time (quantified q gs a) = bind_timestamp gs
speaks_of_time (constant Init) = true
speaks_of_time (unary Happens a) = true
speaks_of_time (unary Pred a) = true
speaks_of_time (value w a) = true
speaks_of_time a = false

-- ---- the walk

-- why a node at depth d, behind k others, is not passed
abbrev pub stop_at : ℕ → FormulaTree → ℕ → Option Stopped
stop_at k f d =
    if speaks_of_time f then Some (Time k)
    else if within_limits (suc k) d then None else Some (Limit k)

abbrev pub past : Option Stopped → Result ℕ Stopped → Result ℕ Stopped
past None r = r
past (Some s) r = Err s

-- how many nodes there are behind these, where k stand before them, or the first that is not passed
abbrev pub passed : ℕ → List (FormulaTree × ℕ) → Result ℕ Stopped
passed k [] = Ok k
passed k (n ∷ ns) = past (stop_at k n.0 n.1) (passed (suc k) ns)
