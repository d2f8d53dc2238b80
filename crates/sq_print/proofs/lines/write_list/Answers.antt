use Rattle.std.proofs.Common.{arith, rules}
use Rattle.std.proofs.lemmas.Grind.{common_steps}
use Rattle.sq_print.proofs.lines.write_list.Goals as goal

pub loop-item-preserved : goal.loop-item-preserved
loop-item-preserved c = (grind (arith, common_steps), c.in_ok-write_item.ensures.kept, search rules)
