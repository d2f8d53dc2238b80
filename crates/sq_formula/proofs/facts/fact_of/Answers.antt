use Rattle.sq_formula.proofs.FactReads.{fact-conditional, fact-boolean}
use Rattle.sq_formula.proofs.facts.fact_of.Goals as goal

pub returns-in_ok-conditional_fact-in-Conditional
    : goal.returns-in_ok-conditional_fact-in-Conditional
returns-in_ok-conditional_fact-in-Conditional c =
    fact-conditional c.args.funs.now _ _ _ _ _ c.in-Conditional.ensures
    c.in_ok-conditional_fact-in-Conditional.ensures

pub returns-in_ok-boolean_fact-in-OfBool : goal.returns-in_ok-boolean_fact-in-OfBool
returns-in_ok-boolean_fact-in-OfBool c =
    fact-boolean c.args.funs.now _ _ _ c.in-OfBool.ensures c.in_ok-boolean_fact-in-OfBool.ensures
