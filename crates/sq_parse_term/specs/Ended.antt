-- A tree with the token that is to stand behind it.
use Rattle.sq_token.specs.Sign.{Sign}
use Rattle.sq_ast.specs.Tree.{FormulaTree}
use Rattle.sq_parse_term.specs.Parse.{Read, got, bind, eat}

unfoldable pub ended : Sign → Read FormulaTree → Read FormulaTree
ended s m = bind m (λ a q. bind (eat s q) (λ _ u. got a u))
