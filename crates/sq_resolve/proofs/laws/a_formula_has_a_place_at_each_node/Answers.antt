use Rattle.sq_resolve.proofs.NodePlaces.{place_trees, levels_of_nodes}
use Rattle.sq_resolve.proofs.laws.a_formula_has_a_place_at_each_node.Goals as goal

pub returns : goal.returns
returns c = record { trees = place_trees; depths = levels_of_nodes }
