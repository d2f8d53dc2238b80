use Rattle.sq_ast.specs.Deep.{height}
use Rattle.sq_ast.specs.View.{formula_tree}
use Rattle.sq_resolve.proofs.times.+time.Given as goal

abbrev pub decreases-time : goal.decreases-time
decreases-time l = height (formula_tree l.f.now)
