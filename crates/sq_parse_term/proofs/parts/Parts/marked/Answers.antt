use Rattle.sq_token.specs.Sign.{signs}
use Rattle.sq_parse_term.specs.Parse.{parse}
use Rattle.sq_parse_term.proofs.Steps.{marked_none}
use Rattle.sq_parse_term.proofs.parts.Parts.marked.Goals as goal

pub returns-in_default : goal.returns-in_default
returns-in_default g c = marked_none (parse c.args.self.now.depth) c.args.symbol
    (signs c.args.tokens.now) c.in_default.not-OpenParenthesis c.in_default.not-Less
