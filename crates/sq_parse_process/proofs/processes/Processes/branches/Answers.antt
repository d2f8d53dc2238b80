use Rattle.std.proofs.Common.{refl}
use Rattle.sq_token.specs.declared.kind.Reserved.TheVariants as r
use Rattle.sq_token.specs.Sign.{signs, reserved}
use Rattle.sq_ast.specs.ProcTree.{process_tree}
use Rattle.sq_parse_process.proofs.Trying.{given_spent}
use Rattle.sq_parse_process.proofs.processes.Processes.branches.Goals as goal

pub otherwise-requires : goal.otherwise-requires
otherwise-requires g c κs = (
  (refl, tt),
  (
    c.requires,
    rw c.get.ensures (given_spent c.args.self.now.depth (reserved r.In)
        (signs c.in_ok-test.rest.now) (process_tree c.in_ok-yes.yes) (signs c.in_ok-yes.rest.now)
        c.in_ok-yes.ensures),
  ),
)
