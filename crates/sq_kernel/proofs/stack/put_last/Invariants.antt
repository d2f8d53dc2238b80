use Rattle.std.proofs.Common.{◌≡◌, ◌++◌, length, reverse}
use Rattle.sq_kernel.proofs.stack.put_last.Given as goal

abbrev pub invariant-loop-premise : goal.invariant-loop-premise
invariant-loop-premise l = l.premises.items ++ reverse l.stack.items
    ≡ l.fn.premises ++ reverse l.initial.stack.items

abbrev pub decreases-loop-premise : goal.decreases-loop-premise
decreases-loop-premise l = length l.premises.items
