use Rattle.std.proofs.Common.{◌≡◌, drop, map}
use Rattle.sq_system.specs.Sequents.{item_of}
use Rattle.sq_print.specs.WrittenGoals as spec
use Rattle.sq_print.specs.WrittenGoals.{StandsAlone}
use Rattle.sq_print.specs.Scopes.{names_of}
use Rattle.sq_print.proofs.lines.write_known.Given as goal

abbrev pub invariant-loop-k : goal.invariant-loop-k
invariant-loop-k l =
    (spec.wrote_known (names_of l.scope) l.labels l.k l.out (map (map item_of) (drop l.k l.known))
    ≡ spec.wrote_known (names_of l.scope) l.labels 0 l.initial.out (map (map item_of) l.known))
    × StandsAlone (names_of l.scope) l.binders
