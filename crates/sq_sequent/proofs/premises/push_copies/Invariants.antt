use Rattle.std.proofs.Common.{◌≡◌, ◌++◌, take}
use Rattle.sq_sequent.proofs.premises.push_copies.Given as goal

abbrev pub invariant-loop-term : goal.invariant-loop-term
invariant-loop-term l = l.out ≡ l.fn.out ++ take l.term-index l.terms
