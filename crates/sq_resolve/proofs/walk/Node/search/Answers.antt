use Rattle.std.proofs.Common.{◌≡◌, ◌∙◌, ◌++◌, ℕ, length, subst}
use Rattle.std.specs.Prelude.{Ok}
use Rattle.sq_base.specs.declared.sort.Sort.TheVariants.{Message, Boolean, Index}
use Rattle.sq_ast.specs.View.{formula_tree}
use Rattle.sq_term.specs.Syntax as t
use Rattle.sq_resolve.specs.Built.{Builds}
use Rattle.sq_resolve.specs.Heads.{context_of}
use Rattle.sq_resolve.specs.Resolved.{three, term_of, group_variables}
use Rattle.sq_resolve.proofs.Walks.{builds_expected, built_three, at_scope, restored}
use Rattle.sq_resolve.proofs.walk.Node.search.Goals as goal

pub returns-clause-builds : goal.returns-clause-builds
returns-clause-builds g c =
    let k = context_of c.args.self.now.resolver.now in
    let bs = c.args.around.now in
    let vs = group_variables Index c.args.names.now in
    let pushed = c.in_ok-push_names.ensures in
    let first = c.in_ok-test.ensures.kept ∙ pushed in
    let second = c.in_ok-then.ensures.kept ∙ first in
    let back = restored bs vs _ _ _ c.len-outer.ensures second c.truncate.ensures in
    let test =
    at_scope k Boolean (formula_tree c.args.a.now) (Ok c.in_ok-test.test)
    (bs ++ vs) _ pushed c.in_ok-test.ensures.builds in
    let then =
    at_scope k Message (formula_tree c.args.b.now) (Ok c.in_ok-then.then)
    (bs ++ vs) _ first c.in_ok-then.ensures.builds in
    let other =
    at_scope k Message (formula_tree c.args.c.now)
    (Ok c.in_ok-other.other) bs _ back c.in_ok-other.ensures.builds in
    let m = term_of k (bs ++ vs) Boolean (formula_tree c.args.a.now) in
    let n = term_of k (bs ++ vs) Message (formula_tree c.args.b.now) in
    let o = term_of k bs Message (formula_tree c.args.c.now) in
    let count : c.in_ok-count.count ≡ length c.args.names.now = c.in_ok-count.ensures in
    builds_expected c.args.want Message (Ok c.in_ok-found.field-0)
    (three (t.find (length c.args.names.now)) m n o) c.in_ok-expect.ensures
    (subst (λ (i : ℕ). Builds (Ok c.in_ok-found.field-0) (three (t.find i) m n o)) count
    (built_three
    (t.find c.in_ok-count.count) c.in_ok-test.test c.in_ok-then.then c.in_ok-other.other
    c.in_ok-found.field-0 m n o test then other c.in_ok-found.ensures))
