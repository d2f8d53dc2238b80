use Rattle.std.proofs.Common.{refl}
use Rattle.sq_token.specs.Sign.{signs}
use Rattle.sq_ast.specs.ProcTree.{process_tree}
use Rattle.sq_parse_process.specs.Process.{formula_at, parse_process}
use Rattle.sq_parse_process.proofs.Trying.{not_tried}
use Rattle.sq_parse_process.proofs.processes.Processes.otherwise.Goals as goal

pub returns-then-is_open : goal.returns-then-is_open
returns-then-is_open g c =
    not_tried (formula_at c.args.self.now.depth) (parse_process c.args.self.now.depth)
    (process_tree c.args.yes.now) (signs c.args.tokens.now) c.requires.spent
    (c.if-is_open.ensures.0 refl)
