use Rattle.std.proofs.Common.{◌∙◌}
use Rattle.sq_ast.specs.View.{formula_tree}
use Rattle.sq_parse_term.specs.Parse.{parse}
use Rattle.sq_parse_term.proofs.Steps.{token_some, token_fails, ended_some, ended_fails, fails_from}
use Rattle.sq_parse_term.proofs.Turns.{err_reads, reads_from}
use Rattle.sq_parse_term.proofs.parts.Parts.branches.Goals as goal

pub returns-in_err-rest : goal.returns-in_err-rest
returns-in_err-rest g c =
    err_reads formula_tree _ _ _ c.from_residual.ensures.1
    (token_fails (parse c.args.self.now.depth) _ _ _ _ _ c.in_err-rest.ensures)

pub returns-in_err-yes : goal.returns-in_err-yes
returns-in_err-yes g c =
    err_reads formula_tree _ _ _ c.from_residual-in_err-yes.ensures.1
    (fails_from _ _ _ (token_some (parse c.args.self.now.depth) _ _ _ _ _ c.in_ok-rest.ensures)
    (ended_fails (parse c.args.self.now.depth) _ _ _ _ _ _ c.in_err-yes.ensures))

pub returns : goal.returns
returns g c =
    reads_from formula_tree _ _ _
    (token_some (parse c.args.self.now.depth) _ _ _ _ _ c.in_ok-rest.ensures
    ∙ ended_some (parse c.args.self.now.depth) _ _ _ _ _ _ _ c.in_ok-yes.ensures)
    c.otherwise.ensures
