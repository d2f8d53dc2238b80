use Rattle.sq_rules_trace.proofs.Agree.{rows_agree}
use Rattle.sq_rules_trace.proofs.laws.computed_premises_are_those_of_the_row.Goals as goal

pub returns : goal.returns
returns c = rows_agree
