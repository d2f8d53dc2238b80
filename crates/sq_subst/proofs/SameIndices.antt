-- `==` on indices is the test that definitions use.
use Rattle.std.proofs.Common.{◌≡◌}
use Rattle.std.proofs.lemmas.Bool.Decides.{same_from_decides}
use Rattle.sq_term.specs.declared.term.Idx.{Idx}
use Rattle.sq_term.specs.TsEquality.{is_same_idx, is_same_idx-decides}
use Rattle.sq_term.specs.contracts.term.IdxPartialEq.TheImpl.{eq-value}
use Rattle.sq_term.proofs.SameParts.{idx-decides}

pub eq-is_same_idx : (i j : Idx) → eq-value.it i j ≡ is_same_idx i j
eq-is_same_idx i j = same_from_decides _ _ (idx-decides i j) (is_same_idx-decides i j)

pub ruleset same_index_rules = (eq-is_same_idx)
