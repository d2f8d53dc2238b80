-- What identifiers mean on a way, and which terms the formulas on it have there.
use Rattle.std.specs.Prelude.{ℕ, suc, ◌+◌, List, [], ◌∷◌, ◌++◌, map, length, zip, Option, Some}
use Rattle.std.specs.Prelude.{None, Ok, Err, true, reverse}
use Rattle.sq_base.specs.declared.sort.Sort.{Sort}
use Rattle.sq_base.specs.declared.sort.Sort.TheVariants.{Message}
use Rattle.sq_ast.specs.Tree.{FormulaTree, name}
use Rattle.sq_sym.specs.declared.symbol.Symbol.{Symbol}
use Rattle.sq_term.specs.declared.action.Action.{Action}
use Rattle.sq_term.specs.declared.signature.FunDecl.{FunDecl}
use Rattle.sq_term.specs.declared.term.Idx.{Idx}
use Rattle.sq_term.specs.declared.term.Idx.TheVariants as idx
use Rattle.sq_term.specs.declared.term.Macro.TheVariants as m
use Rattle.sq_term.specs.Arguments.{ArgTree, an_index}
use Rattle.sq_term.specs.Formulas.{falsity}
use Rattle.sq_term.specs.Lists.{count}
use Rattle.sq_term.specs.Syntax as t
use Rattle.sq_term.specs.Syntax.{TermTree}
use Rattle.sq_system.specs.Facts.{first_indices}
use Rattle.sq_resolve.specs.declared.scope.Given.TheVariants as given
use Rattle.sq_resolve.specs.Fitting.{filled}
use Rattle.sq_resolve.specs.declared.scope.Given.{Given}
use Rattle.sq_resolve.specs.Scopes.{Context, Variable}
use Rattle.sq_resolve.specs.Resolved.{Found, index_of, own_sort, term_of, wanted_by_itself}
use Rattle.sq_elab.specs.Inlined.{ProcessTree}
use Rattle.sq_elab.specs.Ways.{Step, creates, receives, repeats, finds, defines}
use Rattle.sq_elab.specs.Ways.{enters, Way, closes, indices}

-- what a `system` sentence stands behind: the declarations of the file
pub record Base : Type 0 where
  pub table : List (List ℕ × Symbol)
  pub names : List ℕ
  pub funs : List FunDecl
  pub systems : List (List Action)
  pub processes : List ProcessTree

abbrev pub Visible : Type 0
Visible = List (List ℕ × Given)

-- the actions of the system that is not there yet are known to nobody
abbrev pub scope_of : Base → Visible → Context
scope_of b seen =
    record {
      system = length b.systems;
      given = seen;
      vars = [];
      schemas = [];
      table = b.table;
      names = b.names;
      funs = b.funs;
      systems = b.systems;
    }

-- ---- the variables of a way

-- the variables that mean messages and Booleans are numbered from the root on, those that are not
-- seen too
abbrev pub values_of_step : Step → ℕ
values_of_step (creates x k) = 1
values_of_step (receives x a) = 1
values_of_step (defines x f) = 1
values_of_step s = 0

abbrev pub value_count : Way → ℕ
value_count [] = 0
value_count (s ∷ w) = value_count w + values_of_step s

-- names of indices, from index k on
abbrev pub numbered : ℕ → List (List ℕ) → Visible
numbered k [] = []
numbered k (n ∷ ns) = (n, given.Index k) ∷ numbered (suc k) ns

abbrev pub index_number : Found Idx → ℕ
index_number (Ok (idx.Free k)) = k
index_number (Ok (idx.Bound k)) = 0
index_number (Err e) = 0

-- the index that an argument of a call means
abbrev pub argument_number : Base → Visible → List ℕ → ℕ
argument_number b seen y = index_number (index_of (scope_of b seen) [] (name y))

-- the sort of the term of a `let`: Boolean where that is its own sort, and message otherwise
abbrev pub defined_sort : Base → Visible → FormulaTree → Sort
defined_sort b seen f = wanted_by_itself (own_sort (scope_of b seen) [] f)

-- What is seen behind a step: n indices and k values were there before it, which `seen` names.
-- In a called body nothing is seen but its parameters.
abbrev pub seen_behind : Base → Step → ℕ → ℕ → Visible → Visible
seen_behind b (creates x a) n k seen = seen ++ (x, given.Value k Message) ∷ []
seen_behind b (receives x a) n k seen = seen ++ (x, given.Value k Message) ∷ []
seen_behind b (defines x f) n k seen = seen ++ (x, given.Value k (defined_sort b seen f)) ∷ []
seen_behind b (repeats x a) n k seen = seen ++ (x, given.Index n) ∷ []
seen_behind b (finds ns f true) n k seen = seen ++ numbered n ns
seen_behind b (enters xs ys) n k seen =
    zip xs (map (λ y. given.Index (argument_number b seen y)) ys)
seen_behind b s n k seen = seen

-- the identifiers that mean something by the way, of one name the last counts
abbrev pub visible : Base → Way → Visible
visible b [] = []
visible b (s ∷ w) = seen_behind b s (indices w) (value_count w) (visible b w)

-- the scope at the end of a way
abbrev pub scope : Base → Way → Context
scope b w = scope_of b (visible b w)

abbrev pub let_sort : Base → Way → FormulaTree → Sort
let_sort b w f = defined_sort b (visible b w) f

-- ---- terms

abbrev pub or_falsity : Found TermTree → TermTree
or_falsity (Ok u) = u
or_falsity (Err e) = falsity

-- The term of a formula at the end of a way, with schema variable k for value k of the way. It is
-- spoken of only where the formula has no fault.
abbrev pub held : Base → Way → List Variable → Sort → FormulaTree → TermTree
held b w around s f = or_falsity (term_of (scope b w) around s f)

-- an action by its number, with its count of indices
abbrev pub Closing : Type 0
Closing = ℕ × ℕ

-- the first action that is closed from a node on, where `next` is the first behind the node
abbrev pub from_step : Option ℕ → ℕ → Closing → Closing
from_step (Some a) n next = (a, n)
from_step None n next = next

-- `input@` an action, at all of its indices
abbrev pub input_of : Closing → TermTree
input_of next = t.macro m.Input (t.action next.0 (first_indices next.1))

-- what the variable of a step means, where the next action behind it is `next`: the values before
-- it are `values`
abbrev pub value_of_step : Base → Closing → Step → Way → List TermTree → List TermTree
value_of_step b next (creates x k) w values = t.name k (first_indices (indices w)) ∷ []
value_of_step b next (receives x a) w values = input_of next ∷ []
value_of_step b next (defines x f) w values =
    filled values [] (held b w [] (let_sort b w f) f) ∷ []
value_of_step b next s w values = []

abbrev pub joined_value : Base → Closing → Step → Way → List TermTree → List TermTree
joined_value b next s w values = values ++ value_of_step b next s w values

-- What the values of a way are, from the root on, in a term behind which `next` is the first action
-- that is closed. The variable of an `in` means the input of the first action behind it.
abbrev pub values : Base → Closing → Way → List TermTree
values b next [] = []
values b next (s ∷ w) =
    joined_value b next s w (values b (from_step (closes s) (indices w) next) w)

-- the term of a formula at the end of a way, behind which `next` is the first action
abbrev pub term : Base → Closing → Way → List Variable → Sort → FormulaTree → TermTree
term b next w around s f = filled (values b next w) [] (held b w around s f)

-- the same with indices k to k + n - 1 in the places of n binders, the first for the outermost
abbrev pub indices_from : ℕ → ℕ → List ArgTree
indices_from k n = reverse (map (λ i. an_index (idx.Free i)) (count k n))
