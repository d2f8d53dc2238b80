use Rattle.sq_occ.proofs.Absence.{absent}
use Rattle.sq_occ.proofs.laws.absent_where_no_entry.Goals as goal

pub returns : goal.returns
returns c = absent
