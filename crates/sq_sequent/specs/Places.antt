-- Nodes of a sequent's terms, and the arguments of steps.
use Rattle.std.specs.Prelude.{ℕ, zero, suc, List, [], ◌∷◌, ◌++◌, map, Option, Some, None, Result}
use Rattle.std.specs.Prelude.{Ok, Err, slice_get}
use Rattle.sq_term.specs.declared.term.Idx.{Idx}
use Rattle.sq_term.specs.Syntax.{TsTree, free, bound, init, pred, action, TermTree, name, fun}
use Rattle.sq_term.specs.Syntax.{macro, schema, diff, le, ts_eq, idx_eq, happens, all, some, find}
use Rattle.sq_term.specs.Syntax.{TermTrees, nil, cons}
use Rattle.sq_term.specs.View.{ts_tree, term_tree}
use Rattle.sq_system.specs.Sequents.{Item, item, SequentTree}
use Rattle.sq_sequent.specs.declared.places.Node.{Node as NodeOf}
use Rattle.sq_sequent.specs.declared.places.Node.TheVariants as n
use Rattle.sq_step.specs.declared.step.Place.{Place}
use Rattle.sq_step.specs.declared.step.Place.TheVariants as place
use Rattle.sq_step.specs.declared.step.TermArg.{TermArg}
use Rattle.sq_step.specs.declared.step.TermArg.TheVariants as term_arg
use Rattle.sq_step.specs.declared.step.TsArg.{TsArg}
use Rattle.sq_step.specs.declared.step.TsArg.TheVariants as ts_arg
use Rattle.sq_step.specs.declared.step.IdxArg.{IdxArg}
use Rattle.sq_step.specs.declared.step.IdxArg.TheVariants as idx_arg
use Rattle.sq_sequent.specs.Views.{goal_of, hyp_of, items_of}

pub data Node : Type 0 where
  term_node : TermTree → Node
  ts_node : TsTree → Node
  idx_node : Idx → Node

-- in preorder, arguments from left to right
abbrev pub inner_times : TsTree → List Node
inner_times (free k) = []
inner_times (bound k) = []
inner_times init = []
inner_times (pred t) = ts_node t ∷ inner_times t
inner_times (action a is) = map idx_node is

abbrev pub ts_nodes : TsTree → List Node
ts_nodes t = ts_node t ∷ inner_times t

-- the nodes of a term behind the term itself
abbrev mutual
  pub inner_nodes : TermTree → List Node
  inner_nodes (name n is) = map idx_node is
  inner_nodes (fun f is ts) = map idx_node is ++ all_nodes ts
  inner_nodes (macro m t) = ts_nodes t
  inner_nodes (schema k) = []
  inner_nodes (diff a b) = (term_node a ∷ inner_nodes a) ++ (term_node b ∷ inner_nodes b)
  inner_nodes (le a b) = ts_nodes a ++ ts_nodes b
  inner_nodes (ts_eq a b) = ts_nodes a ++ ts_nodes b
  inner_nodes (idx_eq i j) = idx_node i ∷ idx_node j ∷ []
  inner_nodes (happens t) = ts_nodes t
  inner_nodes (all s t) = term_node t ∷ inner_nodes t
  inner_nodes (some s t) = term_node t ∷ inner_nodes t
  inner_nodes (find c t a b) =
      (term_node t ∷ inner_nodes t) ++
      ((term_node a ∷ inner_nodes a) ++ (term_node b ∷ inner_nodes b))

  pub all_nodes : TermTrees → List Node
  all_nodes nil = []
  all_nodes (cons t ts) = (term_node t ∷ inner_nodes t) ++ all_nodes ts

abbrev pub nodes : TermTree → List Node
nodes t = term_node t ∷ inner_nodes t

-- what stands at a place of a list, or how far past its end the place is
pub data Reached : Type 0 where
  at : Node → Reached
  past : ℕ → Reached

abbrev pub reached : List Node → ℕ → Reached
reached [] k = past k
reached (n ∷ ns) zero = at n
reached (n ∷ ns) (suc k) = reached ns k

abbrev pub node_tree : NodeOf → Node
node_tree (n.Term t) = term_node (term_tree t.now)
node_tree (n.Time t) = ts_node (ts_tree t.now)
node_tree (n.Index i) = idx_node i

-- a node, or how far past the nodes its number is
abbrev pub reached_by : Result NodeOf ℕ → Reached
reached_by (Ok node) = at (node_tree node)
reached_by (Err rest) = past rest

abbrev pub left_of : Option Item → Option TermTree
left_of None = None
left_of (Some (item a b)) = Some a

abbrev pub right_of : Option Item → Option TermTree
right_of None = None
right_of (Some (item a b)) = Some b

-- the term at a place
abbrev pub at_place : SequentTree → Place → Option TermTree
at_place s place.Goal = goal_of s
at_place s (place.Hyp h) = hyp_of s h
at_place s (place.Left j) = left_of (slice_get (items_of s) j)
at_place s (place.Right j) = right_of (slice_get (items_of s) j)

abbrev pub node_in : Option TermTree → ℕ → Option Node
node_in None k = None
node_in (Some t) k = slice_get (nodes t) k

abbrev pub as_term : Option Node → Option TermTree
as_term (Some (term_node t)) = Some t
as_term _ = None

abbrev pub as_ts : Option Node → Option TsTree
as_ts (Some (ts_node t)) = Some t
as_ts _ = None

abbrev pub as_idx : Option Node → Option Idx
as_idx (Some (idx_node i)) = Some i
as_idx _ = None

-- what the argument names, where it names something of its kind
unfoldable pub term_at : SequentTree → TermArg → Option TermTree
term_at s (term_arg.At p k) = as_term (node_in (at_place s p) k)
term_at s (term_arg.Written t) = Some (term_tree t)

unfoldable pub ts_at : SequentTree → TsArg → Option TsTree
ts_at s (ts_arg.At p k) = as_ts (node_in (at_place s p) k)
ts_at s (ts_arg.Written t) = Some (ts_tree t)

unfoldable pub idx_at : SequentTree → IdxArg → Option Idx
idx_at s (idx_arg.At p k) = as_idx (node_in (at_place s p) k)
idx_at s (idx_arg.Written i) = Some i
