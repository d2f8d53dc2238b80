-- Instances of actions, as the program reads them off timestamps.
use Rattle.std.specs.Prelude.{ℕ, List, [], Option, Some, None}
use Rattle.sq_term.specs.declared.action.Action.{Action}
use Rattle.sq_term.specs.declared.term.Idx.{Idx}
use Rattle.sq_term.specs.Syntax.{TsTree, action}
use Rattle.sq_rules_trace.specs.declared.instance.Instance.{Instance as InstanceOf}

-- an action at indices
pub record InstanceTree : Type 0 where
  pub action : ℕ
  pub indices : List Idx

-- what the program's value holds
abbrev pub instance_tree : InstanceOf → InstanceTree
instance_tree i = record { action = i.action; indices = i.indices.now }

-- the instance that a timestamp is
unfoldable pub instance_of : Option TsTree → Option InstanceTree
instance_of (Some (action a is)) = Some (record { action = a; indices = is })
instance_of _ = None

-- the actions of a system that is there, or of the one without actions
abbrev pub actions_found : Option (List Action) → List Action
actions_found None = []
actions_found (Some xs) = xs
