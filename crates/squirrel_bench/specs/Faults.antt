-- The fault of a run for a fault of a call.
use Rattle.sq_term.specs.declared.term.SizeFault.{SizeFault}
use Rattle.sq_term.specs.declared.term.SizeFault.TheVariants as size
use Rattle.sq_sym.specs.declared.symbol.SymFault.{SymFault}
use Rattle.sq_sym.specs.declared.symbol.SymFault.TheVariants as table
use Rattle.sq_resolve.specs.declared.fault.ResolveFault.{ResolveFault}
use Rattle.sq_resolve.specs.declared.fault.ResolveFault.TheVariants as formula
use Rattle.sq_system.specs.declared.fault.RuleFault.{RuleFault}
use Rattle.sq_system.specs.declared.fault.RuleFault.TheVariants as rule
use Rattle.squirrel_bench.specs.declared.fault.Fault.{Fault}
use Rattle.squirrel_bench.specs.declared.fault.Fault.TheVariants.{Usage, Limit, NoMemory}

abbrev pub fault_of : SizeFault → Fault
fault_of size.TooLarge = Limit
fault_of size.NoMemory = NoMemory

abbrev pub fault_of_table : SymFault → Fault
fault_of_table table.Twice = Usage
fault_of_table table.NoMemory = NoMemory

abbrev pub fault_of_formula : ResolveFault → Fault
fault_of_formula formula.TooLarge = Limit
fault_of_formula formula.NoMemory = NoMemory
fault_of_formula e = Usage

abbrev pub fault_of_step : RuleFault → Fault
fault_of_step rule.TooLarge = Limit
fault_of_step rule.NoMemory = NoMemory
fault_of_step e = Usage
