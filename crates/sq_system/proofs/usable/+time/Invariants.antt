use Rattle.std.proofs.Common.{◌≡◌, drop}
use Rattle.std.specs.Prelude.{◌||◌}
use Rattle.sq_term.specs.View.{term_trees}
use Rattle.sq_system.specs.Usable.{speak_of_time}
use Rattle.sq_system.proofs.usable.+time.Given as goal

abbrev pub invariant-speak_of_time-loop-term : goal.invariant-speak_of_time-loop-term
invariant-speak_of_time-loop-term l =
    (l.found || speak_of_time (term_trees (drop l.term-index l.terms)))
    ≡ speak_of_time (term_trees l.terms)
