use Rattle.std.proofs.Common.{◌≡◌, drop, length}
use Rattle.sq_print.specs.WrittenGoals as lines
use Rattle.sq_print.proofs.goals.write_goals.Given as goal

abbrev pub invariant-loop-k : goal.invariant-loop-k
invariant-loop-k l =
    lines.wrote_goals l.system l.table l.k (length l.goals) l.out (drop l.k l.goals)
    ≡ lines.wrote_goals l.system l.table 0 (length l.goals) l.initial.out l.goals
