use Rattle.std.proofs.Common.{◌≡◌, drop, map}
use Rattle.sq_system.specs.Sequents.{item_of}
use Rattle.sq_print.specs.WrittenGoals as spec
use Rattle.sq_print.specs.WrittenGoals.{StandsAlone}
use Rattle.sq_print.specs.Scopes.{names_of}
use Rattle.sq_print.proofs.lines.write_items.Given as goal

abbrev pub invariant-loop-k : goal.invariant-loop-k
invariant-loop-k l =
    (spec.wrote_items (names_of l.scope) l.k l.out (map item_of (drop l.k l.items))
    ≡ spec.wrote_items (names_of l.scope) 0 l.initial.out (map item_of l.items))
    × StandsAlone (names_of l.scope) l.binders
