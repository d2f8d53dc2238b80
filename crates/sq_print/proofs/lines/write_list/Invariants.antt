use denote.Shadow.{shadow}
use denote.Text.{Utf8}
use Rattle.std.proofs.Common.{◌≡◌, drop, map, []}
use Rattle.sq_system.specs.Sequents.{item_of}
use Rattle.sq_print.specs.WrittenGoals as spec
use Rattle.sq_print.specs.WrittenGoals.{StandsAlone}
use Rattle.sq_print.specs.Scopes.{names_of}
use Rattle.sq_print.proofs.lines.write_list.Given as goal

abbrev pub invariant-loop-item : goal.invariant-loop-item
invariant-loop-item l =
    (spec.wrote_list (names_of l.scope) l.before l.out (map item_of (drop l.item-index l.items))
    ≡ spec.wrote_list (names_of l.scope) [] l.initial.out (map item_of l.items))
    × StandsAlone (names_of l.scope) l.binders
    × shadow (Utf8 l.before)
