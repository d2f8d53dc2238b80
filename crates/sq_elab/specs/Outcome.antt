-- The outcome of elaborating a process: its actions, and what it declares; or the first fault.
use Rattle.std.specs.Prelude.{ℕ, List, [], ◌∷◌, ◌++◌, map, length, Option, Some, None, Result, Ok}
use Rattle.std.specs.Prelude.{Err}
use Rattle.sq_ast.specs.Tree.{FormulaTree}
use Rattle.sq_ast.specs.ProcTree.{ProcTree}
use Rattle.sq_sym.specs.declared.symbol.Symbol.{Symbol}
use Rattle.sq_sym.specs.declared.symbol.Symbol.TheVariants as symbol
use Rattle.sq_term.specs.Systems.{ActionTree}
use Rattle.sq_elab.specs.declared.fault.ElabFault.{ElabFault}
use Rattle.sq_elab.specs.Actions.{action_of}
use Rattle.sq_elab.specs.Events.{Event, create, close, Count, counted, events}
use Rattle.sq_elab.specs.Faults.{faults, first_of}
use Rattle.sq_elab.specs.FreshNames.{with_fresh}
use Rattle.sq_elab.specs.Inlined.{inlined}
use Rattle.sq_elab.specs.Meanings.{Base}
use Rattle.sq_elab.specs.Ways.{Way, label, indices}

-- ---- closing nodes

-- a closing node: the number of its action, the way to it, and the message of an `out`
pub record ClosingNode : Type 0 where
  pub number : ℕ
  pub way : Way
  pub message : Option FormulaTree

abbrev pub node_of : ℕ → Event → List ClosingNode
node_of n (close w m) = record { number = n; way = w; message = m } ∷ []
node_of n v = []

-- in preorder
abbrev pub closing_nodes : Count → List Event → List ClosingNode
closing_nodes k [] = []
closing_nodes k (v ∷ vs) = node_of k.actions v ++ closing_nodes (counted k v) vs

abbrev pub action_at_node : Base → ClosingNode → ActionTree
action_at_node b n = action_of b n.number n.way n.message

-- ---- declarations

-- what a node declares, and the name that it would have
abbrev pub declaration_of : ℕ → Count → Event → List (List ℕ × Symbol)
declaration_of system k (create w x) = (x, symbol.Name k.names) ∷ []
declaration_of system k (close w m) = (label w, symbol.Action system k.actions) ∷ []
declaration_of system k v = []

abbrev pub declarations : ℕ → Count → List Event → List (List ℕ × Symbol)
declarations system k [] = []
declarations system k (v ∷ vs) =
    declaration_of system k v ++ declarations system (counted k v) vs

abbrev pub name_arity : Event → List ℕ
name_arity (create w x) = indices w ∷ []
name_arity v = []

-- the counts of indices of the new names
abbrev pub name_arities : List Event → List ℕ
name_arities [] = []
name_arities (v ∷ vs) = name_arity v ++ name_arities vs

-- ---- the process of a `system` sentence

abbrev pub start : Base → Count
start b = record { nodes = 0; actions = 0; names = length b.names }

abbrev pub all_events : Base → ProcTree → List Event
all_events b p =
    events b [] 1 (inlined b.table b.processes (length b.table) p) (start b)

abbrev pub nodes_of : Base → ProcTree → List ClosingNode
nodes_of b p = closing_nodes (start b) (all_events b p)

-- the actions, and the table and the names with the new ones behind
pub record Elaborated : Type 0 where
  pub actions : List ActionTree
  pub table : List (List ℕ × Symbol)
  pub names : List ℕ

abbrev pub elaborated : Base → ProcTree → Elaborated
elaborated b p = record {
  actions = map (action_at_node b) (nodes_of b p);
  table = with_fresh b.table (declarations (length b.systems) (start b) (all_events b p));
  names = b.names ++ name_arities (all_events b p);
}

abbrev pub refusal : Base → ProcTree → Option ElabFault
refusal b p = first_of (faults b (start b) (all_events b p))

abbrev pub refused_or : Option ElabFault → Elaborated → Result Elaborated ElabFault
refused_or (Some x) r = Err x
refused_or None r = Ok r

abbrev pub outcome : Base → ProcTree → Result Elaborated ElabFault
outcome b p = refused_or (refusal b p) (elaborated b p)
