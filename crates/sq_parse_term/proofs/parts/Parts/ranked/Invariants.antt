use Rattle.std.proofs.Common.{◌≡◌}
use Rattle.sq_token.specs.Sign.{signs}
use Rattle.sq_ast.specs.View.{formula_tree}
use Rattle.sq_parse_term.specs.Parse.{got, ranked, parse}
use Rattle.sq_parse_term.proofs.parts.Parts.ranked.Given as goal

abbrev pub invariant-loop-below : goal.invariant-loop-below
invariant-loop-below g l = ranked (parse l.self.depth) l.below (signs l.tokens)
    ≡ got (formula_tree l.left) (signs l.rest)
