use Rattle.std.proofs.Common.{◌≡◌, ◌≤◌, ◌+◌, drop, length}
use Rattle.sq_term.specs.Measure.{depth}
use Rattle.sq_run.specs.Formulas.{halves_of}
use Rattle.sq_run.proofs.Chains.{back_depth}
use Rattle.sq_run.proofs.formula.is_shallow.Given as goal

abbrev pub invariant-links : goal.invariant-links
invariant-links l = record {
  front : l.front ≡ depth (halves_of (drop l.at l.links) l.chain.last).front;
  back : l.back ≡ back_depth (halves_of (drop l.at l.links) l.chain.last).back;
  bound : l.front + l.back + l.at ≤ length l.links + 1;
}

abbrev pub decreases-links : goal.decreases-links
decreases-links l = l.at
