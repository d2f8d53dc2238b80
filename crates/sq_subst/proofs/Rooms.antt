-- Sizes and depths are at least 1, and a result has room exactly where both are within their
-- limits.
use Rattle.std.proofs.Common.{◌≡◌, ◌≤◌, ◌<◌, ℕ, min, List, [], ◌∷◌, length, refl, arith}
use Rattle.std.proofs.Common.{Ok, Err}
use Rattle.std.proofs.lemmas.List.{length-map}
use Rattle.std.proofs.lemmas.Bool.Decides.{nat_tests}
use Rattle.sq_term.specs.declared.term.Idx.{Idx}
use Rattle.sq_term.specs.declared.term.SizeFault.TheVariants.{TooLarge}
use Rattle.sq_term.specs.Syntax.{TsTree, free, bound, init, pred, action, TermTree, name, fun}
use Rattle.sq_term.specs.Syntax.{macro, schema, diff, le, ts_eq, idx_eq, happens, all, some, find}
use Rattle.sq_term.specs.Measure.{indices_depth, ts_size, ts_depth, size, depth}
use Rattle.sq_term.proofs.Views.{tree_rules, open_rules}
use Rattle.sq_subst.specs.Room.{within}

pub indices_depth_is : (is : List Idx) → indices_depth is ≡ min 1 (length is)
indices_depth_is [] = refl
indices_depth_is (i ∷ is) = omega arith

pub ts_size-positive : (t : TsTree) → 1 ≤ ts_size t
ts_size-positive (free k) = omega arith
ts_size-positive (bound k) = omega arith
ts_size-positive init = omega arith
ts_size-positive (pred t) = omega arith
ts_size-positive (action n is) = omega arith

pub ts_depth-positive : (t : TsTree) → 1 ≤ ts_depth t
ts_depth-positive (free k) = omega arith
ts_depth-positive (bound k) = omega arith
ts_depth-positive init = omega arith
ts_depth-positive (pred t) = omega arith
ts_depth-positive (action n is) = omega arith

pub size-positive : (t : TermTree) → 1 ≤ size t
size-positive (name n is) = omega arith
size-positive (fun f is ts) = omega arith
size-positive (macro x t) = omega arith
size-positive (schema k) = omega arith
size-positive (diff a b) = omega arith
size-positive (le t s) = omega arith
size-positive (ts_eq t s) = omega arith
size-positive (idx_eq i j) = omega arith
size-positive (happens t) = omega arith
size-positive (all s t) = omega arith
size-positive (some s t) = omega arith
size-positive (find c test found other) = omega arith

pub depth-positive : (t : TermTree) → 1 ≤ depth t
depth-positive (name n is) = omega arith
depth-positive (fun f is ts) = omega arith
depth-positive (macro x t) = omega arith
depth-positive (schema k) = omega arith
depth-positive (diff a b) = omega arith
depth-positive (le t s) = omega arith
depth-positive (ts_eq t s) = omega arith
depth-positive (idx_eq i j) = omega arith
depth-positive (happens t) = omega arith
depth-positive (all s t) = omega arith
depth-positive (some s t) = omega arith
depth-positive (find c test found other) = omega arith

-- a result has room exactly where its size and depth are within their limits
pub within-fits : (room : ℕ) (t : TermTree) → size t ≤ room → depth t ≤ 1024 → within room t ≡ Ok t
within-fits room t s d = grind (arith, nat_tests)

pub within-passes : (room : ℕ) (t : TermTree) → (size t ≤ room → 1024 < depth t)
    → within room t ≡ Err TooLarge
within-passes room t h = grind (arith, nat_tests)

pub ruleset room_rules = (
  tree_rules,
  indices_depth_is,
  ts_size-positive,
  ts_depth-positive,
  size-positive,
  depth-positive,
  length-map,
)

pub ruleset put_rules = (open_rules, length-map)

pub ruleset call_rules = (within-fits, within-passes)
