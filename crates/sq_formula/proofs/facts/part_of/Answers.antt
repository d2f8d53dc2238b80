use Rattle.sq_formula.proofs.FactReads.{part-left, part-right}
use Rattle.sq_formula.proofs.facts.part_of.Goals as goal

pub returns-then-left : goal.returns-then-left
returns-then-left c = part-left c.args.left _ _ _ c.in-Pair.ensures c.if-left.true

pub returns-else-left : goal.returns-else-left
returns-else-left c = part-right c.args.left _ _ _ c.in-Pair.ensures c.if-left.false
