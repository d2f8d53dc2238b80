use Rattle.std.proofs.Common.{◌≡◌, ◌++◌, map, drop}
use Rattle.sq_term.specs.View.{term_tree}
use Rattle.sq_sequent.specs.Premises.{pure_ones}
use Rattle.sq_sequent.proofs.premises.pure_ones.Given as goal

abbrev pub invariant-loop-term : goal.invariant-loop-term
invariant-loop-term l =
    map term_tree l.out ++ pure_ones (map term_tree (drop l.term-index l.terms))
    ≡ pure_ones (map term_tree l.terms)
