use Rattle.sq_term.specs.View.{term_tree, term_trees}
use Rattle.sq_formula.proofs.FactParts.{application-builtin, application-indexed, not-empty}
use Rattle.sq_formula.proofs.facts.application_fact.Goals as goal

pub returns-then-function-lt-DECLARED : goal.returns-then-function-lt-DECLARED
returns-then-function-lt-DECLARED c =
    application-builtin c.args.funs.now (term_tree c.args.t.now) c.args.function c.args.indices.now
    (term_trees c.args.args.now) c.if-function-lt-DECLARED.true c.requires

pub returns-else-is_empty : goal.returns-else-is_empty
returns-else-is_empty c =
    application-indexed c.args.funs.now (term_tree c.args.t.now) c.args.function c.args.indices.now
    (term_trees c.args.args.now) (not-empty _ c.if-is_empty.ensures)
