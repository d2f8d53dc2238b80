use Rattle.std.proofs.Common.{◌≡◌, ◌-◌, ◌+◌, suc, length, arith}
use Rattle.std.proofs.lemmas.List.{length-map}
use Rattle.sq_token.specs.Sign.{sign_of, signs}
use Rattle.sq_ast.specs.View.{formula_trees}
use Rattle.sq_parse_term.specs.Parse.{parse}
use Rattle.sq_parse_term.proofs.Steps.{not_eaten}
use Rattle.sq_parse_term.proofs.Turns.{trees_nothing, part_last, part_next, part_fails, part_out}
use Rattle.sq_parse_term.proofs.Turns.{err_reads}
use Rattle.sq_parse_term.proofs.parts.Parts.formulas.Goals as goal

pub loop-turn-init : goal.loop-turn-init
loop-turn-init g c =
    let count : length c.args.tokens.now + 1 - 0
    ≡ suc (length (signs c.args.tokens.now)) = omega
    (arith, length-map c.args.tokens.now sign_of) in
    rw (c.new-found.ensures, count) (trees_nothing _)

pub returns-in_err-formula : goal.returns-in_err-formula
returns-in_err-formula g c =
    err_reads formula_trees _ _ _ c.from_residual.ensures.1
    (part_fails (parse c.args.self.now.depth) _ _ _ _ c.loop-turn.invariant _
    (omega arith) c.in_err-formula.ensures)

pub returns-in_default : goal.returns-in_default
returns-in_default g c =
    rw c.in_ok-push.ensures.ok (part_last
    (parse c.args.self.now.depth) _ _ _ _ c.loop-turn.invariant
    (omega arith) c.in_ok-formula.formula _ c.in_ok-formula.ensures
    (not_eaten _ _ c.in_default.ensures))

pub loop-turn-preserved : goal.loop-turn-preserved
loop-turn-preserved g c =
    let less : length c.args.tokens.now + 1 - (c.loop-turn._turn + 1)
    ≡ length c.args.tokens.now + 1 - c.loop-turn._turn - 1 = omega arith in
    rw (c.in_ok-push.ensures.ok, less)
    (part_next (parse c.args.self.now.depth) _ _ _ _ c.loop-turn.invariant
    (omega arith) c.in_ok-formula.formula _ _ c.in_ok-formula.ensures c.in-Ok.ensures)

pub returns : goal.returns
returns g c = part_out (parse c.args.self.now.depth) _ _ _ _ c.loop-turn.invariant (omega arith)
