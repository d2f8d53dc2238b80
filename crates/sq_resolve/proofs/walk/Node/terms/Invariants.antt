use Rattle.std.proofs.Common.{◌≡◌, List, drop}
use Rattle.sq_ast.specs.View.{formula_trees}
use Rattle.sq_term.specs.Syntax.{TermTree}
use Rattle.sq_resolve.specs.Built.{IsRow}
use Rattle.sq_resolve.specs.Heads.{context_of}
use Rattle.sq_resolve.specs.Resolved.{mapped, terms_of}
use Rattle.sq_resolve.proofs.Rows.{prepend}
use Rattle.sq_resolve.proofs.walk.Node.terms.Given as goal

abbrev pub invariant-loop-arg : goal.invariant-loop-arg
invariant-loop-arg g l =
    (l.around ≡ l.initial.around)
    × ((xs : List TermTree)
    × (IsRow l.row xs
    × (terms_of (context_of l.self.resolver.now) l.initial.around (formula_trees l.args)
    ≡ mapped (prepend xs)
    (terms_of (context_of l.self.resolver.now) l.initial.around
    (formula_trees (drop l.arg-index l.args))))))
