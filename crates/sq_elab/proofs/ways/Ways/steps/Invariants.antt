use Rattle.std.proofs.Common.{◌≡◌, ◌≤◌, ◌++◌, length, reverse}
use Rattle.sq_elab.specs.Steps.{steps_at}
use Rattle.sq_elab.proofs.ways.Ways.steps.Given as goal

abbrev pub invariant-links : goal.invariant-links
invariant-links l =
    (l.at ≤ length l.self.links.items)
    × (steps_at l.self.links.items l.number
    ≡ steps_at l.self.links.items l.at ++ reverse l.steps.items)

abbrev pub decreases-links : goal.decreases-links
decreases-links l = l.at
