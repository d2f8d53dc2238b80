-- One side of a bi-term.
use Rattle.sq_term.specs.declared.term.Side.{Side}
use Rattle.sq_term.specs.Syntax.{TermTree}
use Rattle.sq_subst.specs.Leaves.{Leaves, keeping, map_term}

abbrev pub projecting : Side → Leaves
projecting side = record keeping { side = side }

abbrev pub projected : Side → TermTree → TermTree
projected side t = map_term (projecting side) 0 t
