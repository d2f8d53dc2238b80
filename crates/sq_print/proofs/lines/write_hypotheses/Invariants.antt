use Rattle.std.proofs.Common.{◌≡◌, drop, map}
use Rattle.sq_term.specs.View.{term_tree}
use Rattle.sq_print.specs.WrittenGoals as spec
use Rattle.sq_print.specs.WrittenGoals.{StandsAlone}
use Rattle.sq_print.specs.Scopes.{names_of}
use Rattle.sq_print.proofs.lines.write_hypotheses.Given as goal

abbrev pub invariant-loop-k : goal.invariant-loop-k
invariant-loop-k l =
    (spec.wrote_hypotheses (names_of l.scope) l.labels l.k l.out
    (map term_tree (drop l.k l.hypotheses))
    ≡ spec.wrote_hypotheses (names_of l.scope) l.labels 0 l.initial.out
    (map term_tree l.hypotheses))
    × StandsAlone (names_of l.scope) l.binders
