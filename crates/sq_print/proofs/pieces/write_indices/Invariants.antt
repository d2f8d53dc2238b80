use denote.Shadow.{shadow}
use denote.Text.{Utf8}
use Rattle.std.proofs.Common.{◌≡◌, drop, codes}
use Rattle.sq_print.specs.Written as spec
use Rattle.sq_print.specs.Scopes.{names_of}
use Rattle.sq_print.proofs.pieces.write_indices.Given as goal

abbrev pub invariant-loop-index : goal.invariant-loop-index
invariant-loop-index l =
    (spec.wrote_indices (names_of l.scope) l.around l.before l.out (drop l.index-index l.indices)
    ≡ spec.wrote_indices (names_of l.scope) l.around (codes "(") l.initial.out l.indices)
    × shadow (Utf8 l.before)
