-- Whether the sides of terms are within the limits of sequents.
use Rattle.std.specs.Prelude.{List, [], ◌∷◌, Bool, true, ◌&&◌}
use Rattle.sq_term.specs.declared.term.Side.{Side}
use Rattle.sq_term.specs.Syntax.{TermTree}
use Rattle.sq_subst.specs.Projection.{projected}
use Rattle.sq_subst.specs.Room.{fits}
use Rattle.sq_system.specs.Limits.{most_nodes}

-- a side of a term, and of each term, may stand in a sequent
abbrev pub side_fits : Side → TermTree → Bool
side_fits side t = fits most_nodes (projected side t)

abbrev pub sides_fit : Side → List TermTree → Bool
sides_fit side [] = true
sides_fit side (t ∷ ts) = side_fits side t && sides_fit side ts
