-- How much room a result may take.
use Rattle.std.specs.Prelude.{◌≡◌, ◌≤◌, ◌<◌, ◌+◌, ℕ, Bool, ◌&&◌, nat_le, if◌then◌else◌, Option}
use Rattle.std.specs.Prelude.{Some, None, Result, Ok, Err}
use Rattle.sq_term.specs.declared.term.SizeFault.{SizeFault}
use Rattle.sq_term.specs.declared.term.SizeFault.TheVariants.{TooLarge}
use Rattle.sq_term.specs.Syntax.{TermTree}
use Rattle.sq_term.specs.Measure.{size, depth}

-- the term has at most `room` nodes and depth 1,024
abbrev pub fits : ℕ → TermTree → Bool
fits room t = nat_le (size t) room && nat_le (depth t) 1024

abbrev pub within : ℕ → TermTree → Result TermTree SizeFault
within room t = if fits room t then Ok t else Err TooLarge

-- a part of this size and depth leaves some of `nodes` and is at most `levels` deep, or it passes
-- either
abbrev pub Spends : ℕ → ℕ → ℕ → ℕ → Option ℕ → Type 0
Spends size depth nodes levels (Some left) = (left + size ≡ nodes) × (depth ≤ levels)
Spends size depth nodes levels None = size ≤ nodes → levels < depth
