-- What a walk that would pass the limits, and a list of occurrences that is not there, are to a
-- step.
use Rattle.sq_term.specs.declared.term.SizeFault.{SizeFault}
use Rattle.sq_term.specs.declared.term.SizeFault.TheVariants as size
use Rattle.sq_system.specs.declared.fault.OccFault.{OccFault}
use Rattle.sq_system.specs.declared.fault.OccFault.TheVariants as occ
use Rattle.sq_system.specs.declared.fault.RuleFault.{RuleFault}
use Rattle.sq_system.specs.declared.fault.RuleFault.TheVariants.{HasSchema, TooLarge, NoMemory}

abbrev pub fault_of : SizeFault → RuleFault
fault_of size.TooLarge = TooLarge
fault_of size.NoMemory = NoMemory

-- the same to a list of occurrences
abbrev pub list_fault : SizeFault → OccFault
list_fault size.TooLarge = occ.TooLarge
list_fault size.NoMemory = occ.NoMemory

abbrev pub unlisted : OccFault → RuleFault
unlisted occ.HasSchema = HasSchema
unlisted occ.TooLarge = TooLarge
unlisted occ.NoMemory = NoMemory
