use Rattle.sq_parse_file.proofs.Sentences.{one_sentence}
use Rattle.sq_parse_file.proofs.laws.one_command.Goals as goal

pub returns : goal.returns
returns c t u ts h i = one_sentence t u ts h.sentence_is i.sentence_is
