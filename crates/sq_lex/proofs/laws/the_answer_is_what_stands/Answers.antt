use Rattle.sq_lex.proofs.Answering.{answered}
use Rattle.sq_lex.proofs.laws.the_answer_is_what_stands.Goals as goal

pub returns : goal.returns
returns c = answered
