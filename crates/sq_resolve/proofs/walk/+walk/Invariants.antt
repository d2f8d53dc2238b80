use Rattle.sq_ast.specs.Deep.{height}
use Rattle.sq_ast.specs.View.{formula_tree}
use Rattle.sq_resolve.proofs.walk.+walk.Given as goal

abbrev pub decreases-resolve_term : goal.decreases-resolve_term
decreases-resolve_term l = height (formula_tree l.f.now)
