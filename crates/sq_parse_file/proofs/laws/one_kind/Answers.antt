use Rattle.std.proofs.Common.{ap}
use Rattle.sq_ast.specs.Forms.{kind_of}
use Rattle.sq_parse_file.proofs.Sentences.{one_sentence}
use Rattle.sq_parse_file.proofs.laws.one_kind.Goals as goal

pub returns : goal.returns
returns c t u ts h i = ap kind_of (one_sentence t u ts h i)
