-- What a fault of the calculus is to the program.
use Rattle.sq_system.specs.declared.fault.RuleFault.{RuleFault}
use Rattle.sq_system.specs.declared.fault.RuleFault.TheVariants as rule
use Rattle.sq_run.specs.declared.goal.Refusal.{Refusal}
use Rattle.sq_run.specs.declared.goal.Refusal.TheVariants as refusal

-- a step without a row is refused as such; the other faults are of forms that are not built
abbrev pub refusal_of : RuleFault → Refusal
refusal_of rule.Shape = refusal.Shape
refusal_of rule.NoMemory = refusal.NoMemory
refusal_of fault = refusal.NotBuilt
