-- What rows ask of a sequent.
use Rattle.std.specs.Prelude.{ℕ, List, [], Option, Some, None, slice_get}
use Rattle.sq_term.specs.Syntax.{TermTree}
use Rattle.sq_system.specs.Sequents.{Item, Body, trace_body, local_body, equiv_body, SequentTree}
use Rattle.sq_system.specs.Sequents.{hyps_of, body_of}

-- the items; a sequent with a goal has none
abbrev pub items_in : Body → List Item
items_in (trace_body goal) = []
items_in (local_body side goal) = []
items_in (equiv_body known items) = items

abbrev pub items_of : SequentTree → List Item
items_of s = items_in (body_of s)

-- the goal, where there is one
abbrev pub goal_in : Body → Option TermTree
goal_in (trace_body goal) = Some goal
goal_in (local_body side goal) = Some goal
goal_in (equiv_body known items) = None

unfoldable pub goal_of : SequentTree → Option TermTree
goal_of s = goal_in (body_of s)

-- the goal of a local sequent
abbrev pub local_goal_in : Body → Option TermTree
local_goal_in (trace_body goal) = None
local_goal_in (local_body side goal) = Some goal
local_goal_in (equiv_body known items) = None

unfoldable pub local_goal_of : SequentTree → Option TermTree
local_goal_of s = local_goal_in (body_of s)

-- hypothesis h, counted from 0
unfoldable pub hyp_of : SequentTree → ℕ → Option TermTree
hyp_of s h = slice_get (hyps_of s) h
