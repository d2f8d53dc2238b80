-- What ground derivations stand on.
use Rattle.std.specs.Prelude.{ℕ, List, Option, Bool}
use Rattle.sq_term.specs.Macros.{GroundMacro}
use Rattle.sq_term.specs.declared.signature.FunDecl.{FunDecl}
use Rattle.sq_term.specs.Syntax.{TermTree}
use Rattle.sq_term.specs.Ground.{Ground}
use Rattle.sq_term.specs.Translate.{Times, World}

-- The trace, the values of the macros on its two sides (true for the left one), the formulas of the
-- axioms that the goal may use, and the functions.
pub record Theory : Type 0 where
  pub times : Times
  pub values : Bool → GroundMacro → Option ℕ → Ground
  pub axioms : List TermTree
  pub funs : List FunDecl

abbrev pub world_at : Theory → Bool → World
world_at th left = record { times = th.times; values = th.values left; left = left }
