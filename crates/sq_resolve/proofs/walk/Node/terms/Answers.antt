use Rattle.std.proofs.Common.{◌≡◌, ◌∙◌, ◌+◌, ◌++◌, ◌∷◌, [], List, ℕ, drop, suc, ap, subst, arith}
use Rattle.std.specs.Prelude.{Ok}
use Rattle.sq_base.specs.declared.sort.Sort.TheVariants.{Message}
use Rattle.sq_ast.specs.declared.formula.Formula.{Formula}
use Rattle.sq_ast.specs.View.{formula_tree, formula_trees}
use Rattle.sq_resolve.specs.Built.{Builds}
use Rattle.sq_resolve.specs.Heads.{context_of}
use Rattle.sq_resolve.specs.Resolved.{mapped, term_of, terms_of}
use Rattle.sq_resolve.specs.Scopes.{Variable}
use Rattle.sq_resolve.proofs.Rows.{prepend, drop_next, drop_end, height_at}
use Rattle.sq_resolve.proofs.Walks.{row_more, row_end}
use Rattle.sq_resolve.proofs.walk.Node.terms.Goals as goal

pub loop-arg-preserved : goal.loop-arg-preserved
loop-arg-preserved g c =
    let inv = c.loop-arg.invariant in
    let xs = inv.1.0 in
    let k = c.loop-arg.arg-index in
    let e : suc k ≡ k + 1 = omega arith in
    let next = drop_next c.args.args.now k c.arg-item.result _ c.loop-arg-test.true c.arg-item.is
    ∙ ap (λ (n : ℕ). c.arg-item.result ∷ drop n c.args.args.now) e in
    let built =
    subst (λ (bs : List Variable). Builds (Ok c.in_ok-term.term)
    (term_of (context_of c.args.self.now.resolver.now) bs Message
    (formula_tree c.arg-item.result))) inv.0 c.in_ok-term.ensures.builds in
    let all =
    inv.1.1.1
    ∙ ap (λ (l : List Formula). mapped (prepend xs)
    (terms_of (context_of c.args.self.now.resolver.now) c.args.around.now (formula_trees l)))
    next in
    let more =
    row_more xs c.in_ok-term.term
    (term_of (context_of c.args.self.now.resolver.now) c.args.around.now Message
    (formula_tree c.arg-item.result))
    (terms_of (context_of c.args.self.now.resolver.now) c.args.around.now
    (formula_trees (drop (k + 1) c.args.args.now)))
    (terms_of (context_of c.args.self.now.resolver.now) c.args.around.now
    (formula_trees c.args.args.now)) all built in (
      c.in_ok-term.ensures.kept
          ∙ inv.0,
      (xs ++ more.0 ∷ [], (c.in_ok-row.ensures xs more.0 inv.1.1.0 more.1.0, more.1.1)),
    )

pub returns-clause-builds : goal.returns-clause-builds
returns-clause-builds g c =
    let inv = c.loop-arg.invariant in
    row_end inv.1.0 c.loop-arg.row _
    (inv.1.1.1
    ∙ ap (λ (l : List Formula). mapped (prepend inv.1.0)
    (terms_of (context_of c.args.self.now.resolver.now) c.args.around.now (formula_trees l)))
    (drop_end c.args.args.now c.loop-arg.arg-index c.loop-arg-test.false))
    inv.1.1.0

pub part-requires-clause-lower : goal.part-requires-clause-lower
part-requires-clause-lower g c =
    omega (
      arith,
      height_at c.args.args.now c.loop-arg.arg-index c.arg-item.result _
          c.loop-arg-test.true c.arg-item.is,
    )
