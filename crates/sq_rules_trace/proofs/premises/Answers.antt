use Rattle.sq_sequent.specs.Sites.{site_tree}
use Rattle.sq_rules_trace.proofs.Answering.{answers, premises_formed, premises_suffice}
use Rattle.sq_rules_trace.proofs.premises.Goals as goal

pub returns-clause-rows : goal.returns-clause-rows
returns-clause-rows c = answers (site_tree c.args.at.now) c.args.step.now c.row.result c.row.ensures

pub returns-clause-well_formed : goal.returns-clause-well_formed
returns-clause-well_formed c =
    premises_formed (site_tree c.args.at.now) c.args.step.now c.facts.ensures c.row.result
    c.row.ensures

pub returns-clause-sound : goal.returns-clause-sound
returns-clause-sound c =
    premises_suffice (site_tree c.args.at.now) c.args.step.now c.facts.ensures c.row.result
    c.row.ensures
