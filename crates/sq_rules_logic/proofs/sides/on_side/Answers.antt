use Rattle.std.proofs.Common.{map}
use Rattle.sq_term.specs.View.{term_tree}
use Rattle.sq_rules_logic.proofs.SideLimits.{hyps-past}
use Rattle.sq_rules_logic.proofs.sides.on_side.Goals as goal

pub returns-in-Err : goal.returns-in-Err
returns-in-Err c =
    hyps-past c.in-Err.fault c.args.side c.args.vars.now (map term_tree c.args.hyps.now)
    (term_tree c.args.goal.now) c.in-Err.ensures
