use Rattle.std.proofs.Common.{arith, rules}
use Rattle.std.proofs.lemmas.Grind.{common_steps}
use Rattle.sq_print.proofs.pieces.write_indices.Goals as goal

pub loop-index-preserved : goal.loop-index-preserved
loop-index-preserved c = (grind (arith, common_steps), search rules)
