use Rattle.sq_elab.proofs.PathLaws.{branches_exclude, finds_exclude, found_indices_exclude}
use Rattle.sq_elab.proofs.laws.branches_exclude_each_other.Goals as goal

pub returns : goal.returns
returns c =
    record { tests = branches_exclude; finds = finds_exclude; found = found_indices_exclude }
