use Rattle.sq_term.specs.View.{term_tree}
use Rattle.sq_system.specs.Sequents.{sequent_tree}
use Rattle.sq_rules_trace.specs.Induction.{earlier}
use Rattle.sq_rules_trace.proofs.EarlierLimits.{hypothesis-past}
use Rattle.sq_rules_trace.proofs.induction.assuming_earlier.Goals as goal

pub returns-in-Err : goal.returns-in-Err
returns-in-Err c =
    hypothesis-past (sequent_tree c.args.s.now) (earlier c.args.v (term_tree c.args.goal.now))
    c.in-Err.fault c.in-Err.ensures
