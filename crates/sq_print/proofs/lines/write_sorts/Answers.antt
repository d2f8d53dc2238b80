use Rattle.std.proofs.Common.{arith, rules}
use Rattle.std.proofs.lemmas.Grind.{common_steps}
use Rattle.sq_print.proofs.lines.write_sorts.Goals as goal

pub loop-k-preserved : goal.loop-k-preserved
loop-k-preserved c = (grind (arith, common_steps), search rules)
