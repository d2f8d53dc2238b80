-- What is left to walk of a process.
use Rattle.std.specs.Prelude.{◌≡◌, ℕ, List, [], ◌∷◌, ◌++◌, Option}
use Rattle.sq_elab.specs.Events.{Event, Count, follow, events, part_events}
use Rattle.sq_elab.specs.Inlined.{InlinedTree, InlinedTrees}
use Rattle.sq_elab.specs.Meanings.{Base}
use Rattle.sq_elab.specs.Ways.{Way}

pub data Task : Type 0 where
  -- a process at the end of a way, at this depth
  walk : Way → ℕ → InlinedTree → Task
  -- the parts from this one on of a parallel, which closes an action if it does
  parts : Way → ℕ → Option ℕ → ℕ → InlinedTrees → Task

module _ (b : Base) where
  abbrev pub task_events : Task → Count → List Event
  task_events (walk w d p) = events b w d p
  task_events (parts w d a j ps) = part_events b w d a j ps

  -- of all that is left, of which the last is walked first
  abbrev pub left_events : List Task → Count → List Event
  left_events [] k = []
  left_events (t ∷ ts) k = follow k (left_events ts k) (task_events t)

-- Where the last of what is left comes to some events and then to other tasks, so does all of it.
abbrev pub WhatIsLeftGoesOn : Type 0
WhatIsLeftGoesOn =
    (b : Base) (k : Count) (ts us : List Task) (t : Task) (vs : List Event)
    → task_events b t k ≡ follow k vs (left_events b us)
    → left_events b (ts ++ t ∷ []) k ≡ follow k vs (left_events b (ts ++ us))
