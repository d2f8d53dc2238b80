use Rattle.std.proofs.Common.{◌≡◌, ◌+◌, sum_by, slice_get, length}
use Rattle.sq_term.specs.Systems.{indices_bound, choices_from}
use Rattle.sq_system.proofs.clash.nth_choice.Given as goal

abbrev pub invariant-steps : goal.invariant-steps
invariant-steps l =
    (slice_get (choices_from l.agree l.left l.right) l.before
    ≡ slice_get (choices_from 0 l.p l.q) l.k)
    × (l.agree + sum_by indices_bound l.left ≡ sum_by indices_bound l.p)

abbrev pub decreases-steps : goal.decreases-steps
decreases-steps l = length l.left
