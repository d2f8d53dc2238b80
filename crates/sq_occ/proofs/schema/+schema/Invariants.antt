use Rattle.std.proofs.Common.{◌≡◌, drop}
use Rattle.std.specs.Prelude.{◌||◌}
use Rattle.sq_term.specs.View.{term_trees}
use Rattle.sq_occ.specs.Searches.{hold_schema}
use Rattle.sq_occ.proofs.schema.+schema.Given as goal

abbrev pub invariant-hold_schema-loop-term : goal.invariant-hold_schema-loop-term
invariant-hold_schema-loop-term l =
    (l.found || hold_schema (term_trees (drop l.term-index l.terms)))
    ≡ hold_schema (term_trees l.terms)
