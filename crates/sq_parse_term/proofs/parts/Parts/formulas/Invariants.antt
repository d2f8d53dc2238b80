use Rattle.std.proofs.Common.{◌≡◌, ◌-◌, suc, length}
use Rattle.sq_token.specs.Sign.{signs}
use Rattle.sq_parse_term.specs.Parse.{formulas, parse}
use Rattle.sq_parse_term.proofs.Turns.{with_trees}
use Rattle.sq_parse_term.proofs.parts.Parts.formulas.Given as goal

abbrev pub invariant-loop-turn : goal.invariant-loop-turn
invariant-loop-turn g l = with_trees l.found
    (formulas (parse l.self.depth) (l._turn-end - l._turn) (signs l.rest))
    ≡ formulas (parse l.self.depth) (suc (length (signs l.tokens))) (signs l.tokens)
