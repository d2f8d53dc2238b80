use Rattle.sq_elab.proofs.NameLaws.{fresh-is-first}
use Rattle.sq_elab.proofs.laws.fresh_names_are_first.Goals as goal

pub returns : goal.returns
returns c = fresh-is-first
