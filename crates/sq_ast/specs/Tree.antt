-- The syntax tree of a formula, a term or a timestamp, as plain data.
use Rattle.std.specs.Prelude.{ℕ, List}
use Rattle.sq_base.specs.declared.sort.Sort.{Sort}
use Rattle.sq_ast.specs.declared.formula.Quantifier.{Quantifier}
use Rattle.sq_ast.specs.declared.formula.Binary.{Binary}
use Rattle.sq_ast.specs.declared.formula.Constant.{Constant}
use Rattle.sq_ast.specs.declared.formula.Unary.{Unary}
use Rattle.sq_ast.specs.declared.formula.MacroWord.{MacroWord}

-- the names of a group, and their sort
abbrev pub Group : Type 0
Group = List (List ℕ) × Sort

mutual
  pub data FormulaTree : Type 0 where
    quantified : Quantifier → List Group → FormulaTree → FormulaTree
    binary : Binary → FormulaTree → FormulaTree → FormulaTree
    group : FormulaTree → FormulaTree
    pair : FormulaTree → FormulaTree → FormulaTree
    constant : Constant → FormulaTree
    conditional : FormulaTree → FormulaTree → FormulaTree → FormulaTree
    find : List (List ℕ) → FormulaTree → FormulaTree → FormulaTree → FormulaTree
    diff : FormulaTree → FormulaTree → FormulaTree
    unary : Unary → FormulaTree → FormulaTree
    value : MacroWord → FormulaTree → FormulaTree
    name : List ℕ → FormulaTree
    apply : List ℕ → FormulaTrees → FormulaTree

  pub data FormulaTrees : Type 0 where
    none : FormulaTrees
    more : FormulaTree → FormulaTrees → FormulaTrees
