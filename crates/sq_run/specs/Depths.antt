-- The depth of a formula from the depths of its halves.
use Rattle.std.specs.Prelude.{ℕ, zero, suc, max, ◌+◌}

-- of an implication with parts of these depths, or of its front where there is no back
abbrev pub joined_depth : ℕ → ℕ → ℕ
joined_depth front zero = front
joined_depth front (suc back) = max front (suc back) + 1
