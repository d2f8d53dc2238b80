use Rattle.sq_lex.proofs.Slices.{token_slices}
use Rattle.sq_lex.proofs.laws.a_token_is_the_longest_slice.Goals as goal

pub returns : goal.returns
returns c = token_slices
