use Rattle.sq_ground.proofs.TraceFormulas.{one_truth}
use Rattle.sq_ground.proofs.laws.trace_formulas_have_one_truth.Goals as goal

pub returns : goal.returns
returns c = one_truth
