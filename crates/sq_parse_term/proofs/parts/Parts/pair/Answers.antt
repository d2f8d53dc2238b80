use Rattle.std.proofs.Common.{sym, ap, ◌∙◌}
use Rattle.sq_token.specs.Sign.{signs}
use Rattle.sq_ast.specs.View.{formula_tree}
use Rattle.sq_parse_term.specs.Parse.{got, parse}
use Rattle.sq_parse_term.proofs.Steps.{ended_some, ended_fails, all_read, fails_from}
use Rattle.sq_parse_term.proofs.Turns.{err_reads}
use Rattle.sq_parse_term.proofs.parts.Parts.pair.Goals as goal

pub returns-in_err-first : goal.returns-in_err-first
returns-in_err-first g c = err_reads formula_tree _ _ _ c.from_residual.ensures.1
    (ended_fails (parse c.args.self.now.depth) _ _ _ _ _ _ c.in_err-first.ensures)

pub returns-in_err-second : goal.returns-in_err-second
returns-in_err-second g c =
    err_reads formula_tree _ _ _ c.from_residual-in_err-second.ensures.1
    (fails_from _ _ _ (ended_some (parse c.args.self.now.depth) _ _ _ _ _ _ _ c.in_ok-first.ensures)
    (ended_fails (parse c.args.self.now.depth) _ _ _ _ _ _ c.in_err-second.ensures))

pub returns : goal.returns
returns g c =
    ended_some (parse c.args.self.now.depth) _ _ _ _ _ _ _ c.in_ok-first.ensures
    ∙ (ended_some (parse c.args.self.now.depth) _ _ _ _ _ _ _ c.in_ok-second.ensures
    ∙ (all_read (parse c.args.self.now.depth) _ _ ∙ ap (λ t. got t (signs c.in_ok-second.rest.now))
    (sym c.in_ok-pair.ensures)))
