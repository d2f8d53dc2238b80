use Rattle.std.proofs.Common.{◌≡◌, ◌++◌, ◌-◌}
use Rattle.sq_print.specs.Names as names
use Rattle.sq_print.specs.Supplies.{IsAround}
use Rattle.sq_print.specs.Scopes.{names_of}
use Rattle.sq_print.proofs.pieces.bind_indices.Given as goal

abbrev pub invariant-loop-turn : goal.invariant-loop-turn
invariant-loop-turn l =
    (l.binders.around ++ names.bound_names (names_of l.scope) l.binders.around (l.count - l.turn)
    ≡ l.initial.binders.around ++ names.bound_names
    (names_of l.scope) l.initial.binders.around l.count)
    × IsAround (names_of l.scope) l.binders
