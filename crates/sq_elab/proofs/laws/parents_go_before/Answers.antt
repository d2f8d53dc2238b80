use Rattle.sq_elab.proofs.ParentLaws as parent
use Rattle.sq_elab.proofs.laws.parents_go_before.Goals as goal

pub returns : goal.returns
returns c = parent.parents_go_before
