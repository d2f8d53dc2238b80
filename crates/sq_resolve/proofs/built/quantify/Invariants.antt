use Rattle.std.proofs.Common.{◌≤◌, drop, length}
use Rattle.sq_term.specs.Syntax.{TermTree}
use Rattle.sq_resolve.specs.Built.{IsBuilt}
use Rattle.sq_resolve.specs.Resolved.{quantify}
use Rattle.sq_resolve.proofs.built.quantify.Given as goal

abbrev pub invariant-outwards : goal.invariant-outwards
invariant-outwards l =
    (l.left ≤ length l.vars)
    × ((x : TermTree) → IsBuilt l.fn.body x → IsBuilt l.built (quantify l.q (drop l.left l.vars) x))

abbrev pub decreases-outwards : goal.decreases-outwards
decreases-outwards l = l.left
