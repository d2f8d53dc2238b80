use Rattle.std.proofs.Common.{◌≡◌, [], List, sym, subst}
use Rattle.std.specs.Prelude.{Ok}
use Rattle.sq_base.specs.declared.sort.Sort.{Sort}
use Rattle.sq_ast.specs.Tree.{FormulaTree}
use Rattle.sq_ast.specs.View.{formula_tree}
use Rattle.sq_term.specs.Syntax.{TermTree}
use Rattle.sq_term.specs.View.{term_tree}
use Rattle.sq_resolve.specs.declared.sized.SizedTerm.{SizedTerm}
use Rattle.sq_resolve.specs.declared.sized.Built.{Built}
use Rattle.sq_resolve.specs.declared.sized.Built.TheVariants.{Within}
use Rattle.sq_resolve.specs.Built.{Builds}
use Rattle.sq_resolve.specs.Resolved.{term_of}
use Rattle.sq_resolve.specs.Scopes.{Context, Variable, context}
use Rattle.sq_resolve.specs.Typed.{IsTerm}
use Rattle.sq_resolve.proofs.TypedLaws.{term_typed}
use Rattle.sq_resolve.proofs.Walks.{term_built}
use Rattle.sq_resolve.proofs.resolving.resolve.Goals as goal

built_is_typed : (c : Context) (bs : List Variable) (want : Sort) (f : FormulaTree) (b : Built)
    (s : SizedTerm) → bs ≡ [] → b ≡ Within s → Builds (Ok b) (term_of c bs want f)
    → IsTerm c [] want f (term_tree s.term)
built_is_typed c bs want f b s none is h =
    let built =
    subst (λ (a : Built). Builds (Ok a) (term_of c [] want f)) is
    (subst (λ (around : List Variable). Builds (Ok b) (term_of c around want f)) none h) in
    let found = term_built (Within s) (term_of c [] want f) built in
    subst (λ (u : TermTree). IsTerm c [] want f u) (sym found.1.1.term_is)
    (term_typed c [] want f found.0 found.1.0)

pub returns-in-Ok-Within-clause-typed : goal.returns-in-Ok-Within-clause-typed
returns-in-Ok-Within-clause-typed c =
    built_is_typed
    (context c.args.scope.now c.args.table.now c.args.env.now) c.new-around.result c.args.want
    (formula_tree c.args.f.now)
    c.in-Ok-Within.field-0 c.in-Ok-Within.term c.new-around.ensures c.in-Ok-Within.field-0-is
    c.in-Ok-Within.ensures.builds
