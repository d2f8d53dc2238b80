use Rattle.std.proofs.Common.{◌≡◌, ◌-◌, suc, length}
use Rattle.sq_token.specs.Sign.{signs}
use Rattle.sq_parse_process.specs.Process.{read_processes, formula_at, parse_process}
use Rattle.sq_parse_process.proofs.Turns.{with_processes}
use Rattle.sq_parse_process.proofs.processes.Processes.list.Given as goal

abbrev pub invariant-loop-turn : goal.invariant-loop-turn
invariant-loop-turn g l =
    with_processes l.found
    (read_processes (formula_at l.self.depth) (parse_process l.self.depth) (l._turn-end - l._turn)
    (signs l.rest)) ≡ read_processes (formula_at l.self.depth) (parse_process l.self.depth)
    (suc (length (signs l.tokens))) (signs l.tokens)
