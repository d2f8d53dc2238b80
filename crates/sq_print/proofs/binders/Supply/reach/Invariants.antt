use Rattle.std.proofs.Common.{◌≡◌, ◌-◌, ◌^◌}
use Rattle.sq_print.specs.Names as spec
use Rattle.sq_print.specs.Supplies.{IsSupply}
use Rattle.sq_print.specs.Scopes.{names_of}
use Rattle.sq_print.proofs.binders.Supply.reach.Given as goal

abbrev pub invariant-candidates : goal.invariant-candidates
invariant-candidates l =
    IsSupply (names_of l.scope) (spec.stem l.sort) l.self × (l.self.used ≡ l.initial.self.used)

abbrev pub decreases-candidates : goal.decreases-candidates
decreases-candidates l = 2 ^ 32 - l.self.tried
