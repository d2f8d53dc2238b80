use Rattle.std.proofs.Common.{◌≡◌, ◌++◌, drop}
use Rattle.sq_term.specs.Symbols.{kind_of}
use Rattle.sq_term.specs.View.{term_trees}
use Rattle.sq_system.specs.Sequents.{sequent_tree}
use Rattle.sq_sequent.specs.Logic.{sequent_trees}
use Rattle.sq_sequent.specs.Premises.{arguments_asked}
use Rattle.sq_sequent.proofs.arguments.arguments_asked.Given as goal

abbrev pub invariant-loop-k : goal.invariant-loop-k
invariant-loop-k l =
    sequent_trees l.premises ++ arguments_asked (sequent_tree l.s) (kind_of l.function) l.k
    (term_trees (drop l.k l.us)) (term_trees (drop l.k l.vs))
    ≡ arguments_asked (sequent_tree l.s) (kind_of l.function) 0 (term_trees l.us) (term_trees l.vs)
