use Rattle.sq_parse_process.proofs.Whole.{one_process}
use Rattle.sq_parse_process.proofs.laws.one_process.Goals as goal

pub returns : goal.returns
returns c t u ts h i = one_process t u ts h i
