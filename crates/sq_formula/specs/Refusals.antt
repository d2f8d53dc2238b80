-- Why something is not made.
use Rattle.std.specs.Prelude.{◌≡◌, ◌≢◌, Bool, false}
use Rattle.sq_system.specs.declared.fault.RuleFault.{RuleFault}
use Rattle.sq_system.specs.declared.fault.RuleFault.TheVariants.{NoMemory, TooLarge}

-- the reason is that something does not fit, or it is want of memory
abbrev pub IsPastLimits : RuleFault → Bool → Type 0
IsPastLimits e fit = e ≢ NoMemory → (e ≡ TooLarge) × (fit ≡ false)
