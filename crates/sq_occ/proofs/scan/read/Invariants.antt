use Rattle.std.proofs.Common.{drop, map}
use Rattle.std.specs.Prelude.{reverse}
use Rattle.sq_term.specs.View.{ts_tree}
use Rattle.sq_occ.specs.Calls.Bodies.{places_of, met_in_all}
use Rattle.sq_occ.specs.Calls.Lists.{growing}
use Rattle.sq_occ.proofs.Growth.{Continues}
use Rattle.sq_occ.proofs.scan.read.Given as goal

abbrev pub invariant-loop-places : goal.invariant-loop-places
invariant-loop-places l =
    Continues (growing l.initial.list) (growing l.list)
    (met_in_all (map places_of (drop l.places-index l.search.bodies.now)) (reverse l.above) l.m
    (ts_tree l.t))
    (met_in_all (map places_of l.search.bodies.now) (reverse l.above) l.m (ts_tree l.t))
