use Rattle.std.proofs.Common.{◌≡◌, drop}
use Rattle.std.specs.Prelude.{◌||◌}
use Rattle.sq_term.specs.View.{term_trees}
use Rattle.sq_occ.specs.Calls.Scans.{read_macro}
use Rattle.sq_occ.proofs.schema.+reading.Given as goal

abbrev pub invariant-read_macro-loop-term : goal.invariant-read_macro-loop-term
invariant-read_macro-loop-term l =
    (l.found || read_macro l.left (term_trees (drop l.term-index l.terms)))
    ≡ read_macro l.left (term_trees l.terms)
