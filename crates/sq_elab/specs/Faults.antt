-- The fault of each event, and the refusal: the first of them.
use Rattle.std.specs.Prelude.{ℕ, suc, List, [], ◌∷◌, Option, Some, None, Bool, true, false, ◌&&◌}
use Rattle.std.specs.Prelude.{◌==◌, not, nat_le, if◌then◌else◌, is_some, option_map}
use Rattle.sq_base.specs.declared.sort.Sort.TheVariants.{Index}
use Rattle.sq_ast.specs.Tree as f
use Rattle.sq_ast.specs.Tree.{FormulaTree}
use Rattle.sq_sym.specs.declared.symbol.Symbol.{Symbol}
use Rattle.sq_sym.specs.declared.symbol.Symbol.TheVariants as symbol
use Rattle.sq_sym.specs.Declarations.{found}
use Rattle.sq_term.specs.Measure.{size, depth}
use Rattle.sq_term.specs.Syntax.{TermTree}
use Rattle.sq_term.specs.Systems.{ActionTree}
use Rattle.sq_system.specs.Limits.{most_actions}
use Rattle.sq_resolve.specs.declared.fault.ResolveFault.{ResolveFault}
use Rattle.sq_resolve.specs.declared.fault.ResolveFault.TheVariants as r
use Rattle.sq_resolve.specs.declared.stopped.Stopped.{Stopped}
use Rattle.sq_resolve.specs.declared.stopped.Stopped.TheVariants.{Time, Limit}
use Rattle.sq_resolve.specs.Built.{within_limits}
use Rattle.sq_elab.specs.declared.fault.ElabFault.{ElabFault}
use Rattle.sq_elab.specs.declared.fault.ElabFault.TheVariants as e
use Rattle.sq_resolve.specs.Scopes.{first_some, last_given}
use Rattle.sq_resolve.specs.Places.{own_fault}
use Rattle.sq_resolve.specs.Stops.{speaks_of_time}
use Rattle.sq_elab.specs.Actions.{action_of}
use Rattle.sq_elab.specs.Events.{Event, process_node, formula_node, calls, argument, channel}
use Rattle.sq_elab.specs.Events.{create, close, Count, counted}
use Rattle.sq_elab.specs.Meanings.{Base, scope, visible}
use Rattle.sq_elab.specs.Ways.{Way}

-- ---- of a formula's node

abbrev pub of_resolving : ResolveFault → ElabFault
of_resolving (r.Unknown x) = e.Unknown x
of_resolving (r.Arity x k n) = e.Arity x k n
of_resolving (r.SortClash want own) = e.SortClash want own
of_resolving r.MessageQuantifier = e.MessageQuantifier
of_resolving r.TooLarge = e.TooLarge
of_resolving r.NoMemory = e.NoMemory

-- no process speaks of time
abbrev pub shape_fault : FormulaTree → Option ElabFault
shape_fault a = if speaks_of_time a then Some e.ProcessShape else None

-- the node at this depth is one too many or too deep
abbrev pub node_fault : Count → ℕ → Option ElabFault
node_fault k d = if within_limits (suc k.nodes) d then None else Some e.TooLarge

-- how many nodes stand before the one at which the walk stops
abbrev pub stop_place : Stopped → ℕ
stop_place (Time k) = k
stop_place (Limit k) = k

abbrev pub of_stopping : Stopped → ElabFault
of_stopping (Time k) = e.ProcessShape
of_stopping (Limit k) = e.TooLarge

-- a fault that stands before that node or at it counts before the node's own
abbrev pub or_stop : Option ResolveFault → Stopped → ElabFault
or_stop (Some x) s = of_resolving x
or_stop None s = of_stopping s

-- ---- of identifiers

-- the identifier is a variable of the way, which hides what else has its name
abbrev pub is_variable : Base → Way → List ℕ → Bool
is_variable b w x = is_some (last_given None x (visible b w))

abbrev pub stands_for_channel : Option (ℕ × Symbol) → Bool
stands_for_channel (Some (at, symbol.Channel)) = true
stands_for_channel _ = false

abbrev pub channel_fault : Base → Way → List ℕ → Option ElabFault
channel_fault b w x =
    if not (is_variable b w x) && stands_for_channel (found x b.table) then None
    else Some (e.Unknown x)

-- how many arguments the process takes, and how many there are
abbrev pub count_fault : List ℕ → Option ℕ → ℕ → Option ElabFault
count_fault x None n = Some (e.Unknown x)
count_fault x (Some k) n = if k == n then None else Some (e.Arity x k n)

abbrev pub call_fault : Base → Way → List ℕ → Option ℕ → ℕ → Option ElabFault
call_fault b w x params n =
    if is_variable b w x then Some (e.Unknown x) else count_fault x params n

-- ---- of a closing node

abbrev pub is_within_limits : TermTree → Bool
is_within_limits u = within_limits (size u) (depth u)

abbrev pub action_fits : ActionTree → Bool
action_fits a = is_within_limits a.cond && is_within_limits a.output

abbrev pub action_fault : ActionTree → Option ElabFault
action_fault a = if action_fits a then None else Some e.TooLarge

-- ---- of all events

-- behind so many nodes, actions and names
abbrev pub fault : Base → Count → Event → Option ElabFault
fault b k (process_node d) = node_fault k d
fault b k (formula_node w p d) =
    first_some (option_map of_resolving (own_fault (scope b w) p.around p.want p.tree))
    (first_some (shape_fault p.tree) (node_fault k d))
fault b k (calls w x params n) = call_fault b w x params n
fault b k (argument w y) = option_map of_resolving (own_fault (scope b w) [] Index (f.name y))
fault b k (channel w x) = channel_fault b w x
fault b k (create w x) = None
fault b k (close w m) =
    if nat_le most_actions k.actions then Some e.TooManyActions
    else action_fault (action_of b k.actions w m)

-- each event's
abbrev pub faults : Base → Count → List Event → List (Option ElabFault)
faults b k [] = []
faults b k (v ∷ vs) = fault b k v ∷ faults b (counted k v) vs

-- the first that is one
abbrev pub first_of : List (Option ElabFault) → Option ElabFault
first_of [] = None
first_of (o ∷ os) = first_some o (first_of os)
