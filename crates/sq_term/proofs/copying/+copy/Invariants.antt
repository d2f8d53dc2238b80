use Rattle.std.proofs.Common.{◌≡◌, take}
use Rattle.sq_term.proofs.copying.+copy.Given as goal

abbrev pub invariant-copies-loop-term : goal.invariant-copies-loop-term
invariant-copies-loop-term l = l.out ≡ take l.term-index l.terms
