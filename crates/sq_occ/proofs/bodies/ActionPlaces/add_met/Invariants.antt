use Rattle.std.proofs.Common.{drop, map}
use Rattle.std.specs.Prelude.{reverse}
use Rattle.sq_term.specs.View.{ts_tree}
use Rattle.sq_occ.specs.Calls.Bodies.{places_of, met_at, met_in}
use Rattle.sq_occ.specs.Calls.Lists.{growing}
use Rattle.sq_occ.specs.Calls.Views.{occ_trees}
use Rattle.sq_occ.proofs.Growth.{Continues}
use Rattle.sq_occ.proofs.bodies.ActionPlaces.add_met.Given as goal

abbrev pub invariant-loop-place : goal.invariant-loop-place
invariant-loop-place l =
    Continues (growing l.initial.list) (growing l.list)
    (map (met_at (places_of l.self) (reverse l.above) l.m (ts_tree l.t))
    (occ_trees (drop l.place-index l.self.places)))
    (met_in (places_of l.self) (reverse l.above) l.m (ts_tree l.t))
