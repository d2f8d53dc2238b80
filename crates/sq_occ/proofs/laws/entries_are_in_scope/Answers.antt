use Rattle.sq_occ.proofs.InScope.{entries_in_scope}
use Rattle.sq_occ.proofs.laws.entries_are_in_scope.Goals as goal

pub returns : goal.returns
returns c = entries_in_scope
