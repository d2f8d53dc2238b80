use Rattle.sq_term.specs.Systems.{system_tree}
use Rattle.sq_ground.proofs.Refusals.{verdict}
use Rattle.sq_ground.proofs.model.valid_model.Goals as goal

pub returns-clause-meaning : goal.returns-clause-meaning
returns-clause-meaning c =
    verdict (system_tree c.args.s.now) c.args.m.now c.find_refused.result c.find_refused.ensures
