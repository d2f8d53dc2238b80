use Rattle.sq_elab.proofs.WalkLaws.{values-are-read}
use Rattle.sq_elab.proofs.laws.values_are_read_off_the_line.Goals as goal

pub returns : goal.returns
returns c = values-are-read
