use Rattle.sq_occ.proofs.MetEntries.{formula_says}
use Rattle.sq_occ.proofs.laws.formula_says_what_is_met.Goals as goal

pub returns : goal.returns
returns c = formula_says
