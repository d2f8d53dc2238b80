use Rattle.std.proofs.Common.{◌≡◌, ◌++◌, drop}
use Rattle.sq_ast.specs.View.{formula_trees}
use Rattle.sq_resolve.specs.Heads.{context_of}
use Rattle.sq_resolve.specs.Resolved.{mapped, indices_of}
use Rattle.sq_resolve.proofs.times.indices.Given as goal

abbrev pub invariant-loop-arg : goal.invariant-loop-arg
invariant-loop-arg l =
    indices_of (context_of l.r) l.binders (formula_trees l.args)
    ≡ mapped (λ rest. l.found ++ rest)
    (indices_of (context_of l.r) l.binders (formula_trees (drop l.arg-index l.args)))
