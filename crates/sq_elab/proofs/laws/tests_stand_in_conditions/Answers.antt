use Rattle.sq_elab.proofs.WayLaws.{tests_in_conditions, finds_in_conditions}
use Rattle.sq_elab.proofs.laws.tests_stand_in_conditions.Goals as goal

pub returns : goal.returns
returns c = record { tests = tests_in_conditions; finds = finds_in_conditions }
