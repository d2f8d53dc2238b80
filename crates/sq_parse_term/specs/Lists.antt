-- Formulas with commas between them, and the end of a find.
use Rattle.std.specs.Prelude.{ℕ, suc, List, [], ◌∷◌, length}
use Rattle.sq_token.specs.declared.kind.Reserved.TheVariants as r
use Rattle.sq_token.specs.Sign.{Sign, reserved}
use Rattle.sq_ast.specs.declared.formula.Form.{Form}
use Rattle.sq_ast.specs.declared.formula.Form.TheVariants.{Term}
use Rattle.sq_ast.specs.Tree.{FormulaTree, FormulaTrees, more}
use Rattle.sq_ast.specs.Deep.{finding, token, part}
use Rattle.sq_parse_term.specs.Parse.{Read, build, run, formulas}

module _ (P : Form → List Sign → Read FormulaTree) where
  -- however many there may be
  abbrev pub formula_list : List Sign → Read FormulaTrees
  formula_list ts = formulas P (suc (length ts)) ts

  -- `in term else term`, behind the names and the test
  abbrev pub find_branches : List (List ℕ) → FormulaTree → List Sign → Read FormulaTree
  find_branches ns a ts =
      run P (token (reserved r.In) ∷ part Term ∷ token (reserved r.Else) ∷ part Term ∷ [])
      (λ xs. build (finding ns) (more a xs)) ts

  -- the last term, behind the one before it
  abbrev pub find_last : List (List ℕ) → FormulaTree → FormulaTree → List Sign → Read FormulaTree
  find_last ns a b ts = run P (part Term ∷ []) (λ xs. build (finding ns) (more a (more b xs))) ts
