use Rattle.sq_ast.specs.View.{formula_tree}
use Rattle.sq_resolve.specs.Heads.{context_of}
use Rattle.sq_resolve.specs.Resolved.{equation}
use Rattle.sq_resolve.proofs.Walks.{built_one}
use Rattle.sq_resolve.proofs.walk.Node.unequal.Goals as goal
use Rattle.sq_term.specs.Formulas as formula

pub returns-clause-builds : goal.returns-clause-builds
returns-clause-builds g c =
    built_one formula.negation c.in_ok-whole.whole c.in_ok-call_one.field-0
    (equation (context_of c.args.self.now.resolver.now) c.args.around.now c.args.want
    (formula_tree c.args.a.now) (formula_tree c.args.b.now))
    c.in_ok-whole.ensures.builds c.in_ok-call_one.ensures
