use Rattle.std.proofs.Common.{Ok, ap, sym, ◌∙◌}
use Rattle.sq_lex.specs.Lex.{sentences}
use Rattle.sq_lex.proofs.Answering.{stands_answer}
use Rattle.sq_ast.specs.View.{formula_tree}
use Rattle.sq_term.specs.View.{term_tree}
use Rattle.sq_resolve.specs.Scopes.{context}
use Rattle.sq_readback.proofs.BinderCounts.{few_names}
use Rattle.sq_readback.proofs.Returns.{comes_back}
use Rattle.sq_readback.proofs.returning.print_and_read.Goals as goal

pub returns-in-Ok : goal.returns-in-Ok
returns-in-Ok c =
    let here = context c.args.scope.now c.args.table.now c.args.env.now in
    let t = term_tree c.args.t.now in
    let printed = c.in_ok-text.ensures in
    let few = few_names here t c.in_ok-text.text printed.text printed.few in
    comes_back here c.args.want t c.requires.readable few c.requires.within
    _ (ap sentences (sym printed.text) ∙ stands_answer _ (Ok _) c.in_ok-sentences.ensures)
    (formula_tree c.in_ok-formula.formula) c.in_ok-formula.ensures
    (term_tree c.in-Ok.read) c.in-Ok.ensures.exact
