use Rattle.std.proofs.Common.{◌∙◌, List, subst}
use Rattle.std.specs.Prelude.{Ok}
use Rattle.sq_base.specs.declared.sort.Sort.TheVariants.{Message, Boolean}
use Rattle.sq_ast.specs.View.{formula_tree}
use Rattle.sq_resolve.specs.Built.{Builds}
use Rattle.sq_resolve.specs.Heads.{context_of}
use Rattle.sq_resolve.specs.Resolved.{three, term_of}
use Rattle.sq_resolve.specs.Scopes.{Variable}
use Rattle.sq_resolve.proofs.Walks.{builds_expected, built_three}
use Rattle.sq_resolve.proofs.walk.Node.conditional.Goals as goal
use Rattle.sq_term.specs.Formulas as formula

pub returns-clause-builds : goal.returns-clause-builds
returns-clause-builds g c =
    let k = context_of c.args.self.now.resolver.now in
    let first = c.in_ok-test.ensures.kept in
    let second = c.in_ok-then.ensures.kept ∙ first in
    let then_built =
    subst (λ (bs : List Variable). Builds (Ok c.in_ok-then.then)
    (term_of k bs Message (formula_tree c.args.b.now))) first c.in_ok-then.ensures.builds in
    let other_built =
    subst (λ (bs : List Variable). Builds (Ok c.in_ok-other.other)
    (term_of k bs Message (formula_tree c.args.c.now))) second c.in_ok-other.ensures.builds in
    let m = term_of k c.args.around.now Boolean (formula_tree c.args.a.now) in
    let n = term_of k c.args.around.now Message (formula_tree c.args.b.now) in
    let o = term_of k c.args.around.now Message (formula_tree c.args.c.now) in
    builds_expected c.args.want Message (Ok c.in_ok-call_three.field-0)
    (three formula.conditional m n o) c.in_ok-expect.ensures
    (built_three formula.conditional c.in_ok-test.test c.in_ok-then.then c.in_ok-other.other
    c.in_ok-call_three.field-0 m n o c.in_ok-test.ensures.builds then_built other_built
    c.in_ok-call_three.ensures)
