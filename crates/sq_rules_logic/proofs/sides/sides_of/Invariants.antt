use Rattle.std.proofs.Common.{◌≡◌, ◌++◌, map, drop, false}
use Rattle.sq_term.specs.View.{term_tree}
use Rattle.sq_subst.specs.Projection.{projected}
use Rattle.sq_rules_logic.specs.SideLimits.{sides_fit}
use Rattle.sq_rules_logic.proofs.sides.sides_of.Given as goal

abbrev pub invariant-loop-term : goal.invariant-loop-term
invariant-loop-term l =
    (map term_tree l.out ++ map (projected l.side) (map term_tree (drop l.term-index l.terms))
    ≡ map (projected l.side) (map term_tree l.terms))
    × (sides_fit l.side (map term_tree (drop l.term-index l.terms)) ≡ false
    → sides_fit l.side (map term_tree l.terms) ≡ false)
