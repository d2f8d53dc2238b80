use Rattle.std.proofs.Common.{map}
use Rattle.sq_term.specs.View.{term_tree}
use Rattle.sq_system.specs.Sequents.{item_of}
use Rattle.sq_sequent.specs.RewriteRow.{rewriting_tree}
use Rattle.sq_sequent.proofs.RewriteLimits.{items-refused}
use Rattle.sq_rules_logic.proofs.rewriting.with_rewritten_items.Goals as goal

pub returns-in-Err : goal.returns-in-Err
returns-in-Err c =
    items-refused c.in-Err.fault (rewriting_tree c.args.by.now) c.args.vars.now
    (map term_tree c.args.hyps.now) (map (map item_of) c.args.known.now)
    (map item_of c.args.items.now)
    c.in-Err.ensures
