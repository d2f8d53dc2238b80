-- An `else` that was tried in vain.
use Rattle.std.specs.Prelude.{◌≡◌, List, ◌∷◌}
use Rattle.sq_token.specs.declared.kind.Reserved.TheVariants as r
use Rattle.sq_token.specs.Sign.{Sign, reserved}
use Rattle.sq_ast.specs.ProcTree.{ProcTree}
use Rattle.sq_ast.specs.ProcGrammar.{IsOpen}
use Rattle.sq_parse_term.specs.Parse.{Read, none}

-- Behind an open process, P reads nothing from what an `else` there has behind it: an `if` or
-- `find` in the process would have taken it.
abbrev pub IsSpent : (List Sign → Read ProcTree) → ProcTree → List Sign → Type 0
IsSpent P a ts = IsOpen a → (q : List Sign) → ts ≡ reserved r.Else ∷ q → P q ≡ none
