use Rattle.std.proofs.Common.{arith, rules}
use Rattle.std.proofs.lemmas.Grind.{common_steps}
use Rattle.sq_print.proofs.pieces.write_names.Goals as goal

pub loop-name-preserved : goal.loop-name-preserved
loop-name-preserved c = (grind (arith, common_steps), search rules)
