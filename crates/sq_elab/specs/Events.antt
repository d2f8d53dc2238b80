-- What stands in a process with its calls replaced, in the order in which it is walked.
use Rattle.std.specs.Prelude.{ℕ, suc, List, [], ◌∷◌, ◌++◌, map, length, zip, Option, Some, None}
use Rattle.std.specs.Prelude.{Bool, true, false, if◌then◌else◌}
use Rattle.sq_base.specs.declared.sort.Sort.{Sort}
use Rattle.sq_base.specs.declared.sort.Sort.TheVariants.{Message, Boolean, Index}
use Rattle.sq_ast.specs.Tree.{FormulaTree}
use Rattle.sq_resolve.specs.Scopes.{Variable}
use Rattle.sq_resolve.specs.Resolved.{group_variables}
use Rattle.sq_resolve.specs.Places.{Place, places}
use Rattle.sq_resolve.specs.Stops.{levels}
use Rattle.sq_elab.specs.Inlined as q
use Rattle.sq_elab.specs.Inlined.{InlinedTree, InlinedTrees}
use Rattle.sq_elab.specs.Meanings.{Base, scope, let_sort}
use Rattle.sq_elab.specs.Ways.{creates, receives, repeats, sends, tests, finds, defines}
use Rattle.sq_elab.specs.Ways.{part, labels, enters, Way, pending}

pub data Event : Type 0 where
  -- a node of the process at this depth
  process_node : ℕ → Event
  -- a node of a formula at this depth
  formula_node : Way → Place → ℕ → Event
  -- a call: the count of parameters of the process that the name stands for, and of arguments
  calls : Way → List ℕ → Option ℕ → ℕ → Event
  -- an argument of a call
  argument : Way → List ℕ → Event
  channel : Way → List ℕ → Event
  create : Way → List ℕ → Event
  -- a closing node, with the message of an `out`
  close : Way → Option FormulaTree → Event

-- how many nodes, actions and names there are so far
pub record Count : Type 0 where
  pub nodes : ℕ
  pub actions : ℕ
  pub names : ℕ

abbrev pub counted : Count → Event → Count
counted k (process_node d) = record k { nodes = suc k.nodes }
counted k (formula_node w p d) = record k { nodes = suc k.nodes }
counted k (create w x) = record k { names = suc k.names }
counted k (close w m) = record k { actions = suc k.actions }
counted k e = k

abbrev pub counted_all : Count → List Event → Count
counted_all k [] = k
counted_all k (e ∷ es) = counted_all (counted k e) es

-- the first events, and those that follow them
abbrev pub follow : Count → List Event → (Count → List Event) → List Event
follow k es rest = es ++ rest (counted_all k es)

-- ---- formulas

-- the nodes of a formula whose root has depth d, where the sort is wanted
abbrev pub formula : Base → Way → List Variable → Sort → ℕ → FormulaTree → List Event
formula b w around want d a =
    map (λ r. formula_node w r.0 r.1) (zip (places (scope b w) around want a) (levels d a))

-- ---- processes

abbrev pub closing : Way → List Event
closing w = if pending w then close w None ∷ [] else []

-- the number of the action that a node at the end of the way closes, if it does
abbrev pub number : Way → Count → Option ℕ
number w k = if pending w then Some k.actions else None

abbrev pub are_more : InlinedTrees → Bool
are_more q.none = false
are_more (q.more p ps) = true

module _ (b : Base) where
  abbrev mutual
    -- of a process at the end of the way, at depth d, behind so many nodes, actions and names
    pub events : Way → ℕ → InlinedTree → Count → List Event
    events w d q.unwritten k = closing w
    events w d q.null k = closing w ++ process_node d ∷ []
    events w d (q.new x p) k =
        follow k (process_node d ∷ create w x ∷ []) (events (creates x k.names ∷ w) (suc d) p)
    events w d (q.receive c x p) k =
        follow k (channel w c ∷ (closing w ++ process_node d ∷ []))
        (events (receives x (number w k) ∷ w) (suc d) p)
    events w d (q.send c m p) k =
        follow k
        (channel w c ∷ process_node d
        ∷ (formula b w [] Message (suc d) m ++ close w (Some m) ∷ []))
        (events (sends m k.actions ∷ w) (suc d) p)
    events w d (q.branch a p r) k =
        follow k (process_node d ∷ formula b w [] Boolean (suc d) a)
        (λ i. follow i (events (tests a true ∷ w) (suc d) p i)
        (events (tests a false ∷ w) (suc d) r))
    events w d (q.find ns a p r) k =
        follow k (process_node d ∷ formula b w (group_variables Index ns) Boolean (suc d) a)
        (λ i. follow i (events (finds ns a true ∷ w) (suc d) p i)
        (events (finds ns a false ∷ w) (suc d) r))
    events w d (q.define x u p) k =
        follow k (process_node d ∷ formula b w [] (let_sort b w u) (suc d) u)
        (events (defines x u ∷ w) (suc d) p)
    events w d (q.replicate i p) k =
        follow k (closing w ++ process_node d ∷ [])
        (events (repeats i (number w k) ∷ w) (suc d) p)
    events w d (q.label l p) k =
        follow k (process_node d ∷ []) (events (labels l ∷ w) (suc d) p)
    events w d (q.enclosed p) k = follow k (process_node d ∷ []) (events w (suc d) p)
    events w d (q.parallel ps) k =
        follow k (closing w ++ process_node d ∷ []) (part_events w (suc d) (number w k) 0 ps)
    events w d (q.called x args params p) k =
        follow k (calls w x (Some (length params)) (length args) ∷ map (argument w) args)
        (events (enters params args ∷ w) d p)
    events w d (q.uncalled x) k = calls w x None 0 ∷ []

    -- of the parts of a parallel from part j on; the parallel closes action a, if it does
    pub part_events : Way → ℕ → Option ℕ → ℕ → InlinedTrees → Count → List Event
    part_events w d a j q.none k = []
    part_events w d a j (q.more p ps) k =
        follow k (events (part j (are_more ps) a ∷ w) d p k) (part_events w d a (suc j) ps)
