use Rattle.sq_rules_logic.proofs.SideLimits.{first-refused, second-refused}
use Rattle.sq_rules_logic.proofs.sides.each_side.Goals as goal

pub returns-in-Err-on_side : goal.returns-in-Err-on_side
returns-in-Err-on_side c = second-refused c.in-Err-on_side.fault _ _ c.in-Err-on_side.ensures

pub returns-in-Err : goal.returns-in-Err
returns-in-Err c = first-refused c.in-Err.fault _ _ c.in-Err.ensures
