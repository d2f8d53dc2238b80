use Rattle.std.proofs.Common.{◌≡◌, ◌≤◌, sum_by, length}
use Rattle.sq_term.specs.Systems.{indices_bound, in_conflict}
use Rattle.sq_system.proofs.clash.in_conflict.Given as goal

abbrev pub invariant-steps : goal.invariant-steps
invariant-steps l =
    (in_conflict l.left l.left_indices l.right l.right_indices ≡ in_conflict l.p l.is l.q l.js)
    × (sum_by indices_bound l.left ≤ length l.left_indices)
    × (sum_by indices_bound l.right ≤ length l.right_indices)

abbrev pub decreases-steps : goal.decreases-steps
decreases-steps l = length l.left
