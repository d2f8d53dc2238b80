use Rattle.std.proofs.Common.{sym, ap, ◌∙◌}
use Rattle.sq_token.specs.Sign.{signs}
use Rattle.sq_ast.specs.View.{formula_tree}
use Rattle.sq_parse_term.specs.Parse.{got, parse}
use Rattle.sq_parse_term.proofs.Steps.{ended_some, ended_fails, last_some, last_fails, fails_from}
use Rattle.sq_parse_term.proofs.Turns.{err_reads}
use Rattle.sq_parse_term.proofs.parts.Parts.conditional.Goals as goal

pub returns-in_err-test : goal.returns-in_err-test
returns-in_err-test g c = err_reads formula_tree _ _ _ c.from_residual.ensures.1
    (ended_fails (parse c.args.self.now.depth) _ _ _ _ _ _ c.in_err-test.ensures)

pub returns-in_err-yes : goal.returns-in_err-yes
returns-in_err-yes g c =
    err_reads formula_tree _ _ _ c.from_residual-in_err-yes.ensures.1
    (fails_from _ _ _ (ended_some (parse c.args.self.now.depth) _ _ _ _ _ _ _ c.in_ok-test.ensures)
    (ended_fails (parse c.args.self.now.depth) _ _ _ _ _ _ c.in_err-yes.ensures))

pub returns-in_err-no : goal.returns-in_err-no
returns-in_err-no g c =
    err_reads formula_tree _ _ _ c.from_residual-in_err-no.ensures.1
    (fails_from _ _ _ (ended_some (parse c.args.self.now.depth) _ _ _ _ _ _ _ c.in_ok-test.ensures
    ∙ ended_some (parse c.args.self.now.depth) _ _ _ _ _ _ _ c.in_ok-yes.ensures)
    (last_fails (parse c.args.self.now.depth) _ _ _ _ c.in_err-no.ensures))

pub returns : goal.returns
returns g c =
    ended_some (parse c.args.self.now.depth) _ _ _ _ _ _ _ c.in_ok-test.ensures
    ∙ (ended_some (parse c.args.self.now.depth) _ _ _ _ _ _ _ c.in_ok-yes.ensures
    ∙ (last_some (parse c.args.self.now.depth) _ _ _ _ _ c.in_ok-no.ensures ∙ ap
    (λ t. got t (signs c.in_ok-no.rest.now)) (sym c.in_ok-conditional.ensures)))
