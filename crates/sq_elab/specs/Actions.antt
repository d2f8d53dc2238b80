-- The action that a closing node at the end of a way closes.
use Rattle.std.specs.Prelude.{ℕ, List, [], ◌∷◌, ◌++◌, length, Option, Some, None, Bool, true, false}
use Rattle.std.specs.Prelude.{if◌then◌else◌, is_some}
use Rattle.sq_base.specs.declared.sort.Sort.TheVariants.{Message, Boolean, Index}
use Rattle.sq_ast.specs.Tree.{FormulaTree}
use Rattle.sq_ast.specs.declared.formula.Quantifier.TheVariants.{Forall}
use Rattle.sq_term.specs.Formulas.{truth, negation, both, empty}
use Rattle.sq_term.specs.Syntax.{TermTree}
use Rattle.sq_term.specs.Systems.{ActionTree}
use Rattle.sq_resolve.specs.Resolved.{group_variables, quantify}
use Rattle.sq_resolve.specs.Fitting.{filled}
use Rattle.sq_elab.specs.Meanings.{Base, Closing, values, term, held, indices_from}
use Rattle.sq_elab.specs.Ways.{tests, finds, Way, closes, indices, parent, closed_path}

-- all of them, in order
abbrev pub conj : List TermTree → TermTree
conj [] = truth
conj (a ∷ []) = a
conj (a ∷ b ∷ rest) = both a (conj (b ∷ rest))

module _ (b : Base) where
  -- the test of a branch, on a way behind which `next` is the first action that is closed
  abbrev pub branch_test : Closing → Way → FormulaTree → Bool → TermTree
  branch_test next w f true = term b next w [] Boolean f
  branch_test next w f false = negation (term b next w [] Boolean f)

  -- where a `find` found, its variables are the next indices; elsewhere none are as it looked for
  abbrev pub find_test : Closing → Way → List (List ℕ) → FormulaTree → Bool → TermTree
  find_test next w ns f true =
      filled (values b next w) (indices_from (indices w) (length ns))
      (held b w (group_variables Index ns) Boolean f)
  find_test next w ns f false =
      quantify Forall (group_variables Index ns)
      (negation (term b next w (group_variables Index ns) Boolean f))

  -- the tests of the way behind its last action, in order
  abbrev pub tests_since : Closing → Way → List TermTree
  tests_since next [] = []
  tests_since next (tests f x ∷ w) = tests_since next w ++ branch_test next w f x ∷ []
  tests_since next (finds ns f x ∷ w) = tests_since next w ++ find_test next w ns f x ∷ []
  tests_since next (s ∷ w) = if is_some (closes s) then [] else tests_since next w

  -- the message of an `out`
  abbrev pub output : Closing → Way → Option FormulaTree → TermTree
  output next w None = empty
  output next w (Some f) = term b next w [] Message f

  -- the action with this number, whose closing node stands at the end of the way
  abbrev pub action_of : ℕ → Way → Option FormulaTree → ActionTree
  action_of a w message = record {
    arity = indices w;
    parent = parent w;
    path = closed_path w;
    cond = conj (tests_since (a, indices w) w);
    output = output (a, indices w) w message;
  }
