use denote.Shadow.{shadow}
use denote.Text.{Utf8}
use Rattle.std.proofs.Common.{◌≡◌, drop}
use Rattle.sq_term.specs.View.{term_trees}
use Rattle.sq_print.specs.Written as spec
use Rattle.sq_print.specs.Scopes.{names_of}
use Rattle.sq_print.specs.Supplies.{Kept}
use Rattle.sq_print.proofs.writer.+write.Given as goal

abbrev pub invariant-write_parts-loop-k : goal.invariant-write_parts-loop-k
invariant-write_parts-loop-k l =
    (spec.wrote_parts (names_of l.scope) l.binders.around l.layout l.k l.out
    (term_trees (drop l.k l.parts))
    ≡ spec.wrote_parts (names_of l.scope) l.binders.around l.layout 0 l.initial.out
    (term_trees l.parts))
    × Kept (names_of l.scope) l.initial.binders l.binders

abbrev pub invariant-write_arguments-loop-argument : goal.invariant-write_arguments-loop-argument
invariant-write_arguments-loop-argument l =
    (spec.wrote_arguments (names_of l.scope) l.binders.around l.before l.out
    (term_trees (drop l.argument-index l.arguments))
    ≡ spec.wrote_arguments (names_of l.scope) l.binders.around l.first l.initial.out
    (term_trees l.arguments))
    × Kept (names_of l.scope) l.initial.binders l.binders
    × shadow (Utf8 l.before)
