use Rattle.std.proofs.lemmas.Bool.Decides.{same_from_decides}
use Rattle.sq_term.proofs.SameTrees.{is_same_term-decides}
use Rattle.sq_formula.proofs.equality.is_same.Goals as goal

pub returns : goal.returns
returns c = same_from_decides _ _ c.same.ensures (is_same_term-decides _ _)
