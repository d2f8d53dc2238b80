use Rattle.sq_elab.proofs.Examples.{found-and-not, found-twice, not-found-twice}
use Rattle.sq_elab.proofs.worked.where_a_find_found_and_where_not_clash.Goals as goal

pub returns : goal.returns
returns c = record {
  found_and_not = found-and-not;
  found_twice = found-twice;
  not_found_twice = not-found-twice;
}
