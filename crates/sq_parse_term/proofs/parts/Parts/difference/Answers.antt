use Rattle.std.proofs.Common.{sym, ap, ◌∙◌}
use Rattle.sq_token.specs.Sign.{signs}
use Rattle.sq_ast.specs.View.{formula_tree}
use Rattle.sq_parse_term.specs.Parse.{got, parse}
use Rattle.sq_parse_term.proofs.Steps.{token_some, token_fails, ended_some, ended_fails, all_read}
use Rattle.sq_parse_term.proofs.Steps.{fails_from}
use Rattle.sq_parse_term.proofs.Turns.{err_reads}
use Rattle.sq_parse_term.proofs.parts.Parts.difference.Goals as goal

pub returns-in_err-rest : goal.returns-in_err-rest
returns-in_err-rest g c =
    err_reads formula_tree _ _ _ c.from_residual.ensures.1
    (token_fails (parse c.args.self.now.depth) _ _ _ _ _ c.in_err-rest.ensures)

pub returns-in_err-left : goal.returns-in_err-left
returns-in_err-left g c =
    err_reads formula_tree _ _ _ c.from_residual-in_err-left.ensures.1
    (fails_from _ _ _ (token_some (parse c.args.self.now.depth) _ _ _ _ _ c.in_ok-rest.ensures)
    (ended_fails (parse c.args.self.now.depth) _ _ _ _ _ _ c.in_err-left.ensures))

pub returns-in_err-right : goal.returns-in_err-right
returns-in_err-right g c =
    err_reads formula_tree _ _ _ c.from_residual-in_err-right.ensures.1
    (fails_from _ _ _ (token_some (parse c.args.self.now.depth) _ _ _ _ _ c.in_ok-rest.ensures
    ∙ ended_some (parse c.args.self.now.depth) _ _ _ _ _ _ _ c.in_ok-left.ensures)
    (ended_fails (parse c.args.self.now.depth) _ _ _ _ _ _ c.in_err-right.ensures))

pub returns : goal.returns
returns g c =
    token_some (parse c.args.self.now.depth) _ _ _ _ _ c.in_ok-rest.ensures
    ∙ (ended_some (parse c.args.self.now.depth) _ _ _ _ _ _ _ c.in_ok-left.ensures
    ∙ (ended_some (parse c.args.self.now.depth) _ _ _ _ _ _ _ c.in_ok-right.ensures
    ∙ (all_read (parse c.args.self.now.depth) _ _ ∙ ap (λ t. got t (signs c.in_ok-right.rest.now))
    (sym c.in_ok-diff.ensures))))
