use Rattle.std.proofs.lemmas.Slice.Eq.{slice_eq-Decides}
use Rattle.sq_term.proofs.SameParts.{idx-decides}
use Rattle.sq_sequent.proofs.arguments.same_indices.Goals as goal

pub returns : goal.returns
returns c = slice_eq-Decides idx-decides _ _ c.eq.result c.eq.ensures
