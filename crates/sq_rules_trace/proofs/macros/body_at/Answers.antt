use Rattle.sq_term.specs.View.{term_tree}
use Rattle.sq_rules_trace.proofs.BodyLimits.{body-past}
use Rattle.sq_rules_trace.proofs.macros.body_at.Goals as goal

pub returns-in-Err : goal.returns-in-Err
returns-in-Err c =
    body-past c.args.side c.args.indices.now (term_tree c.args.body.now) c.in-Err.fault
    c.in-Err.ensures
