-- What the functions that build ground terms answer.
use Rattle.std.specs.Prelude.{◌≡◌, ℕ, ◌<◌, ◌≤◌, ◌⊎◌, Result, Ok, Err}
use Rattle.sq_term.specs.declared.term.SizeFault.{SizeFault}
use Rattle.sq_term.specs.declared.term.SizeFault.TheVariants.{TooLarge}
use Rattle.sq_term.specs.Ground.{Ground, Grounds, ground, grounds}
use Rattle.sq_ground.specs.declared.built.Built.{Built}
use Rattle.sq_ground.specs.declared.built.Arguments.{Arguments}
use Rattle.sq_ground.specs.Calls.GroundMeasure.{ground_size, ground_sizes, ground_depth}
use Rattle.sq_ground.specs.Calls.GroundMeasure.{ground_depths}

-- the term has more than `room` nodes or is deeper than 1,024
abbrev pub Passes : ℕ → Ground → Type 0
Passes room g = (room < ground_size g) ⊎ (1024 < ground_depth g)

abbrev pub AllPass : ℕ → Grounds → Type 0
AllPass room gs = (room < ground_sizes gs) ⊎ (1024 < ground_depths gs)

-- the term within the limits, or TooLarge only where it passes them
abbrev pub Builds : ℕ → Ground → Result Built SizeFault → Type 0
Builds room g (Ok b) = (ground b.term ≡ g) × (b.size ≤ room) × (b.depth ≤ 1024)
Builds room g (Err e) = e ≡ TooLarge → Passes room g

abbrev pub BuildsAll : ℕ → Grounds → Result Arguments SizeFault → Type 0
BuildsAll room gs (Ok b) = (grounds b.terms ≡ gs) × (b.size ≤ room) × (b.depth ≤ 1024)
BuildsAll room gs (Err e) = e ≡ TooLarge → AllPass room gs
