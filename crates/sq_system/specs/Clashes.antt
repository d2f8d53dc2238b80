-- A choice on a common path as the program answers it.
use Rattle.std.specs.Prelude.{ℕ}
use Rattle.sq_term.specs.declared.action.PathStep.{PathStep}
use Rattle.sq_term.specs.declared.action.PathStep.TheVariants as step
use Rattle.sq_term.specs.Systems.{Choice}
use Rattle.sq_system.specs.declared.clash.Clash.{Clash}

abbrev pub choice_of : Clash → Choice
choice_of c = record { agree = c.agree; differ = c.differ }

-- how many indices a find binds where it found
abbrev pub indices_found : PathStep → ℕ
indices_found (step.Found c) = c
indices_found s = 0
