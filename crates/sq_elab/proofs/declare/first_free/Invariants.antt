use Rattle.std.proofs.Common.{◌-◌, ◌^◌}
use Rattle.sq_elab.specs.Declarations.{AreTaken}
use Rattle.sq_elab.proofs.declare.first_free.Given as goal

abbrev pub invariant-candidates : goal.invariant-candidates
invariant-candidates l = AreTaken l.table l.name l.number

abbrev pub decreases-candidates : goal.decreases-candidates
decreases-candidates l = 2 ^ 32 - l.number
