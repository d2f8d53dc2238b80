-- What the terms of the built-in functions hold.
use Rattle.sq_term.proofs.Views.{tree_rules}
use Rattle.sq_term.proofs.KindNumbers.{kind_of-function_number}

pub ruleset formula_rules = (tree_rules, kind_of-function_number)
