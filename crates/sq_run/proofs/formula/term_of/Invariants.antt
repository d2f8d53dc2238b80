use Rattle.std.proofs.Common.{◌≡◌, ◌≤◌, drop, length, option_map}
use Rattle.sq_term.specs.View.{term_tree}
use Rattle.sq_run.specs.Formulas.{halves_of}
use Rattle.sq_run.proofs.formula.term_of.Given as goal

abbrev pub invariant-links : goal.invariant-links
invariant-links l = record {
  within : l.at ≤ length l.links;
  front : term_tree l.front ≡ (halves_of (drop l.at l.links) l.chain.last).front;
  back : option_map term_tree l.back ≡ (halves_of (drop l.at l.links) l.chain.last).back;
}

abbrev pub decreases-links : goal.decreases-links
decreases-links l = l.at
