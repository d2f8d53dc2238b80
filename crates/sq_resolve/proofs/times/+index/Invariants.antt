use Rattle.sq_ast.specs.Deep.{height}
use Rattle.sq_ast.specs.View.{formula_tree}
use Rattle.sq_resolve.proofs.times.+index.Given as goal

abbrev pub decreases-index : goal.decreases-index
decreases-index l = height (formula_tree l.f.now)
