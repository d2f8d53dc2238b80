use Rattle.std.proofs.Common.{◌≡◌, length, option_map}
use Rattle.sq_run.specs.Formulas.{chain_of}
use Rattle.sq_run.proofs.Chains.{behind}
use Rattle.sq_run.proofs.formula.chain_of.Given as goal

abbrev pub invariant-names : goal.invariant-names
invariant-names l = option_map (behind l.links) (chain_of l.table l.rest) ≡ chain_of l.table l.words

abbrev pub decreases-names : goal.decreases-names
decreases-names l = length l.rest
