use Rattle.std.proofs.Common.{◌≡◌, ◌-◌, ◌+◌, suc, length, arith}
use Rattle.std.proofs.lemmas.List.{length-map}
use Rattle.sq_token.specs.Sign.{sign_of, signs}
use Rattle.sq_ast.specs.ProcTree.{process_trees}
use Rattle.sq_parse_term.proofs.Steps.{not_eaten}
use Rattle.sq_parse_term.proofs.Turns.{err_reads}
use Rattle.sq_parse_process.specs.Process.{formula_at, parse_process}
use Rattle.sq_parse_process.proofs.Turns.{processes_nothing, turn_last, turn_next, turn_fails}
use Rattle.sq_parse_process.proofs.Turns.{turn_out}
use Rattle.sq_parse_process.proofs.processes.Processes.list.Goals as goal

pub loop-turn-init : goal.loop-turn-init
loop-turn-init g c =
    let count : length c.args.tokens.now + 1 - 0 ≡ suc (length (signs c.args.tokens.now)) =
    omega (arith, length-map c.args.tokens.now sign_of) in
    rw (c.new-found.ensures, count) (processes_nothing _)

pub returns-in_err-process : goal.returns-in_err-process
returns-in_err-process g c =
    err_reads process_trees _ _ _ c.from_residual.ensures.1
    (turn_fails (formula_at c.args.self.now.depth) (parse_process c.args.self.now.depth) _ _ _ _
    c.loop-turn.invariant _ (omega arith) c.in_err-process.ensures)

pub returns-in_default : goal.returns-in_default
returns-in_default g c =
    rw c.in_ok-push.ensures.ok
    (turn_last (formula_at c.args.self.now.depth) (parse_process c.args.self.now.depth) _ _ _ _
    c.loop-turn.invariant (omega arith) c.in_ok-process.process _ c.in_ok-process.ensures
    (not_eaten _ _ c.in_default.ensures))

pub loop-turn-preserved : goal.loop-turn-preserved
loop-turn-preserved g c =
    let less : length c.args.tokens.now + 1 - (c.loop-turn._turn + 1)
    ≡ length c.args.tokens.now + 1 - c.loop-turn._turn - 1 = omega arith in
    rw (c.in_ok-push.ensures.ok, less)
    (turn_next (formula_at c.args.self.now.depth) (parse_process c.args.self.now.depth) _ _ _ _
    c.loop-turn.invariant (omega arith) c.in_ok-process.process _ _ c.in_ok-process.ensures
    c.in-Ok.ensures)

pub returns : goal.returns
returns g c = turn_out (formula_at c.args.self.now.depth) (parse_process c.args.self.now.depth) _ _
    _ _ c.loop-turn.invariant (omega arith)
