use Rattle.sq_parse_term.proofs.Within.{one_tree}
use Rattle.sq_parse_term.proofs.laws.one_tree.Goals as goal

pub returns : goal.returns
returns c f t u ts h i = one_tree f t u ts h i
