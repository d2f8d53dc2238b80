use Rattle.sq_sequent.specs.Facts.{standing_fact}
use Rattle.sq_sequent.specs.Places.{term_at}
use Rattle.sq_sequent.specs.Sites.{site_tree}
use Rattle.sq_sequent.proofs.Held.{fact-refused}
use Rattle.sq_rules_logic.proofs.written.with_fact.Goals as goal

pub returns-in-Err : goal.returns-in-Err
returns-in-Err c =
    let here = site_tree c.args.at.now in
    fact-refused here.sequent (standing_fact here (term_at here.sequent c.args.t.now))
    c.in-Err.fault c.in-Err.ensures
