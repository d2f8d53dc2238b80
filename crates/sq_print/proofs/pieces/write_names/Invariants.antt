use denote.Shadow.{shadow}
use denote.Text.{Utf8}
use Rattle.std.proofs.Common.{◌≡◌, drop, []}
use Rattle.sq_print.specs.Written as spec
use Rattle.sq_print.proofs.pieces.write_names.Given as goal

abbrev pub invariant-loop-name : goal.invariant-loop-name
invariant-loop-name l =
    (spec.wrote_names l.before l.out (drop l.name-index l.names)
    ≡ spec.wrote_names [] l.initial.out l.names) × shadow (Utf8 l.before)
