use Rattle.std.proofs.Common.{◌≡◌, drop}
use Rattle.sq_term.specs.View.{term_trees}
use Rattle.sq_sequent.specs.Places.{reached, all_nodes}
use Rattle.sq_sequent.proofs.places.+walk.Given as goal

abbrev pub invariant-node_among-loop-term : goal.invariant-node_among-loop-term
invariant-node_among-loop-term l =
    reached (all_nodes (term_trees (drop l.term-index l.terms))) l.rest
    ≡ reached (all_nodes (term_trees l.terms)) l.k
