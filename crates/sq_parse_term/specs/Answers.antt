-- What `parse_formula` answers of the tokens from its place on.
use Rattle.std.specs.Prelude.{◌≤◌, ◌<◌, List}
use Rattle.sq_token.specs.Sign.{Sign}
use Rattle.sq_ast.specs.declared.formula.Form.TheVariants.{Formula}
use Rattle.sq_ast.specs.Tree.{FormulaTree}
use Rattle.sq_ast.specs.Deep.{height, IsFront, IsLongest, RunsDeep}

-- t is the longest formula, and q is behind it
pub record IsFormula (ts : List Sign) (t : FormulaTree) (q : List Sign) : Type 0 where
  pub longest : IsLongest Formula ts t q
  pub depth : height t ≤ 256
  pub shallow : RunsDeep 256 Formula ts → ⊥

-- no front of the tokens is a formula
pub record HasNone (ts : List Sign) : Type 0 where
  pub none : (t : FormulaTree) (q : List Sign) → IsFront Formula ts t q → ⊥
  pub shallow : RunsDeep 256 Formula ts → ⊥

-- the place runs deep, or the longest formula is too deep
pub data IsTooDeep (ts : List Sign) : Type 0 where
  place : RunsDeep 256 Formula ts → IsTooDeep ts
  tree : (t : FormulaTree) (q : List Sign) → IsLongest Formula ts t q → 256 < height t
      → IsTooDeep ts
