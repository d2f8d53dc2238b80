use denote.Shadow.{shadow}
use denote.Text.{Utf8}
use Rattle.std.proofs.Common.{◌≡◌, drop, []}
use Rattle.sq_print.specs.WrittenGoals as spec
use Rattle.sq_print.proofs.lines.write_sorts.Given as goal

abbrev pub invariant-loop-k : goal.invariant-loop-k
invariant-loop-k l =
    (spec.wrote_sorts l.names l.k l.before l.out (drop l.k l.sorts)
    ≡ spec.wrote_sorts l.names 0 [] l.initial.out l.sorts) × shadow (Utf8 l.before)
