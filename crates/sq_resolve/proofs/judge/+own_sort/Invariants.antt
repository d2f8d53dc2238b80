use Rattle.sq_ast.specs.Deep.{height}
use Rattle.sq_ast.specs.View.{formula_tree}
use Rattle.sq_resolve.proofs.judge.+own_sort.Given as goal

abbrev pub decreases-own_sort : goal.decreases-own_sort
decreases-own_sort l = height (formula_tree l.f.now)
