use Rattle.sq_elab.proofs.WalkLaws.{judge-append}
use Rattle.sq_elab.proofs.laws.a_walk_goes_on_where_it_stood.Goals as goal

pub returns : goal.returns
returns c = judge-append
