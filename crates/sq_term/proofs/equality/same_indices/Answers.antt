use Rattle.std.proofs.lemmas.Slice.Eq.{slice_eq-Decides}
use Rattle.sq_term.proofs.SameParts.{idx-decides}
use Rattle.sq_term.proofs.equality.same_indices.Goals as goal

pub returns : goal.returns
returns c =
    let d = slice_eq-Decides idx-decides _ _ c.eq.result c.eq.ensures in
    rw (← c.as_slice.ensures, ← c.as_slice-2.ensures) d
