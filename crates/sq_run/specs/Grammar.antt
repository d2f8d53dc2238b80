-- The grammar of formulas: `formula = conj ["=>" formula]` and `conj = NAME ["&&" conj]`, and the
-- trees of both.
use Rattle.std.specs.Prelude.{ℕ, List, [], ◌∷◌, ◌++◌, codes, unwrap_or}
use Rattle.sq_term.specs.Formulas as formula
use Rattle.sq_term.specs.Syntax.{TermTree}
use Rattle.sq_run.specs.Formulas.{Declarations, constant, function_of}

pub data Conj : Type 0 where
  single : List ℕ → Conj
  both : List ℕ → Conj → Conj

pub data Formula : Type 0 where
  conj : Conj → Formula
  implies : Conj → Formula → Formula

abbrev pub conj_words : Conj → List (List ℕ)
conj_words (single x) = x ∷ []
conj_words (both x c) = x ∷ codes "&&" ∷ conj_words c

abbrev pub formula_words : Formula → List (List ℕ)
formula_words (conj c) = conj_words c
formula_words (implies c f) = conj_words c ++ codes "=>" ∷ formula_words f

-- the constant of a declared name
abbrev pub name_tree : Declarations → List ℕ → TermTree
name_tree table x = constant (unwrap_or (function_of table x) 0)

abbrev pub conj_tree : Declarations → Conj → TermTree
conj_tree table (single x) = name_tree table x
conj_tree table (both x c) = formula.both (name_tree table x) (conj_tree table c)

abbrev pub formula_tree : Declarations → Formula → TermTree
formula_tree table (conj c) = conj_tree table c
formula_tree table (implies c f) = formula.implies (conj_tree table c) (formula_tree table f)
