use Rattle.sq_token.proofs.Words.{word_is}
use Rattle.sq_token.proofs.kind.words_have_their_texts.Goals as goal

pub returns : goal.returns
returns c = word_is
