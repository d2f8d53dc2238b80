use Rattle.sq_run.proofs.Grammars.{tree_of-words, chain_of-spelled}
use Rattle.sq_run.proofs.formula.formulas_have_their_trees.Goals as goal

pub returns-clause-trees : goal.returns-clause-trees
returns-clause-trees c table f chain e = tree_of-words table f chain e

pub returns-clause-spelled : goal.returns-clause-spelled
returns-clause-spelled c table words chain e = chain_of-spelled table words chain e
