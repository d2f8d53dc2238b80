use Rattle.std.proofs.Common.{◌∙◌}
use Rattle.sq_term.specs.View.{ts_tree}
use Rattle.sq_sequent.specs.Places.{ts_nodes}
use Rattle.sq_sequent.proofs.Walks.{then-on}
use Rattle.sq_sequent.proofs.places.node_of_two.Goals as goal

pub returns-in-Err : goal.returns-in-Err
returns-in-Err c =
    c.time_node-in-Err.ensures
    ∙ then-on (ts_nodes (ts_tree c.args.a.now))
    (ts_nodes (ts_tree c.args.b.now)) c.args.k c.in-Err.rest c.in-Err.ensures
