use Rattle.std.proofs.Common.{◌≤◌, length, drop}
use Rattle.sq_print.specs.Spellings.{TellsFrom}
use Rattle.sq_print.proofs.spelling.Spellings.of.Given as goal

abbrev pub invariant-declarations : goal.invariant-declarations
invariant-declarations l =
    (l.at ≤ length l.table) × TellsFrom l.at (drop l.at l.table) l.system l.spellings

abbrev pub decreases-declarations : goal.decreases-declarations
decreases-declarations l = l.at
