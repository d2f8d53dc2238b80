-- Formulas under a connective.
use Rattle.std.specs.Prelude.{List, [], ◌∷◌}
use Rattle.sq_term.specs.Formulas.{constant, binary}
use Rattle.sq_term.specs.Symbols.{Kind}
use Rattle.sq_term.specs.Syntax.{TermTree}

-- nested to the right: the unit where there is none, and the formula where there is one
abbrev pub nested : Kind → Kind → List TermTree → TermTree
nested connective unit [] = constant unit
nested connective unit (t ∷ []) = t
nested connective unit (t ∷ u ∷ rest) = binary connective t (nested connective unit (u ∷ rest))
