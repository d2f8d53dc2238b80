use Rattle.std.proofs.Common.{◌≡◌, drop, length}
use Rattle.sq_term.specs.Systems.{action_trees}
use Rattle.sq_occ.specs.Calls.Bodies.{scan_of, all_places_in}
use Rattle.sq_occ.proofs.Finding.{Finds}
use Rattle.sq_occ.proofs.bodies.find_once.Given as goal

abbrev pub invariant-loop-action : goal.invariant-loop-action
invariant-loop-action l =
    Finds l.room l.left l.found
    (all_places_in (scan_of l.search) l.action-index
    (action_trees (drop l.action-index l.actions)))
    (all_places_in (scan_of l.search) 0 (action_trees l.actions))
    × (length l.found ≡ l.action-index)
