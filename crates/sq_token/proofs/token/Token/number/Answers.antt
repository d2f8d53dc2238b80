use Rattle.sq_token.proofs.Numbers.{number_read}
use Rattle.sq_token.proofs.token.Token.number.Goals as goal

pub returns-in-Number : goal.returns-in-Number
returns-in-Number c = number_read _ _ _ _ _ c.in-Number.is c.as_str.ensures c.parse.ensures.value.0
    c.args.self.now.of_kind c.ok.ensures.value
