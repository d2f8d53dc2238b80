use Rattle.std.proofs.Common.{subst}
use Rattle.sq_ast.specs.View.{formula_tree}
use Rattle.sq_term.specs.Builtins.{builtin_kind}
use Rattle.sq_term.specs.Formulas as formula
use Rattle.sq_resolve.specs.Built.{Builds}
use Rattle.sq_resolve.specs.Heads.{context_of}
use Rattle.sq_resolve.specs.Resolved.{both, expect, term_of}
use Rattle.sq_resolve.proofs.Walks.{apply_applied, at_shape}
use Rattle.sq_resolve.proofs.walk.Node.form.Goals as goal

pub returns-in-Quantified-clause-builds : goal.returns-in-Quantified-clause-builds
returns-in-Quantified-clause-builds g c =
    at_shape (context_of c.args.self.now.resolver.now) c.args.around.now c.args.want
    c.quantified.result _ _ c.in-Quantified.is c.quantified.ensures.builds

pub returns-in-Pair-clause-builds : goal.returns-in-Pair-clause-builds
returns-in-Pair-clause-builds g c =
    let k = context_of c.args.self.now.resolver.now in
    let bs = c.args.around.now in
    let want = c.args.want in
    let a = formula_tree c.in-Pair.a.now in
    let b = formula_tree c.in-Pair.b.now in
    let call = c.of_messages.ensures in
    at_shape k bs want c.with_two.result _ _ c.in-Pair.is
    (subst (Builds c.with_two.result)
    (λ i. expect want (call.own i) (both (formula.binary (builtin_kind (call.function i)))
    (term_of k bs (call.part i) a) (term_of k bs (call.part i) b)))
    c.with_two.ensures.builds)

pub returns-in-Find-clause-builds : goal.returns-in-Find-clause-builds
returns-in-Find-clause-builds g c =
    at_shape (context_of c.args.self.now.resolver.now) c.args.around.now c.args.want c.search.result
    _ _ c.in-Find.is c.search.ensures.builds

pub returns-in-Value-clause-builds : goal.returns-in-Value-clause-builds
returns-in-Value-clause-builds g c =
    at_shape (context_of c.args.self.now.resolver.now) c.args.around.now c.args.want
    c.macro_at.result _ _ c.in-Value.is (rw c.as_slice.ensures at c.macro_at.ensures)

pub returns-in-Apply-clause-builds : goal.returns-in-Apply-clause-builds
returns-in-Apply-clause-builds g c =
    let k = context_of c.args.self.now.resolver.now in
    let built =
    subst (Builds c.applied-in-Apply.result)
    (apply_applied k c.args.around.now c.args.want c.in-Apply.name.now c.in-Apply.args.now)
    c.applied-in-Apply.ensures.builds in
    at_shape k c.args.around.now c.args.want c.applied-in-Apply.result _ _ c.in-Apply.is built
