use Rattle.sq_cert_steps.proofs.Bounds.{line-short}
use Rattle.sq_cert_steps.proofs.laws.lines_are_bounded_by_their_nodes.Goals as goal

pub returns : goal.returns
returns c = line-short
