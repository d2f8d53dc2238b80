use Rattle.std.proofs.lemmas.Bool.Decides.{same_from_decides}
use Rattle.sq_term.proofs.SameParts.{is_same_ts-decides}
use Rattle.sq_formula.proofs.equality.is_same_time.Goals as goal

pub returns : goal.returns
returns c = same_from_decides _ _ c.same_ts.ensures (is_same_ts-decides _ _)
