-- Systems and their actions, and which instances of actions exclude each other.
use Rattle.std.specs.Prelude.{ℕ, suc, ◌+◌, List, [], ◌∷◌, ◌++◌, map, take, drop, Option, None, Bool}
use Rattle.std.specs.Prelude.{true, false, ◌&&◌, ◌||◌, ◌==◌, if◌then◌else◌, not, slice_get, get_or}
use Rattle.sq_term.specs.declared.action.Action.{Action}
use Rattle.sq_term.specs.declared.action.PathStep.{PathStep}
use Rattle.sq_term.specs.declared.action.PathStep.TheVariants.{Side, Rep, Branch, Found, NotFound}
use Rattle.sq_term.specs.declared.action.PathStep.TheVariants.{Done}
use Rattle.sq_term.specs.Lists.{same_numbers, same_bit}
use Rattle.sq_term.specs.Syntax.{TermTree}
use Rattle.sq_term.specs.Formulas.{truth, empty}
use Rattle.sq_term.specs.View.{term_tree}

-- an action: its count of indices, the action before it on its line, the path to it, its condition
-- and its output
pub record ActionTree : Type 0 where
  pub arity : ℕ
  pub parent : Option ℕ
  pub path : List PathStep
  pub cond : TermTree
  pub output : TermTree

-- the action that the program's value holds
abbrev pub action_tree : Action → ActionTree
action_tree a = record {
  arity = a.arity;
  parent = a.parent;
  path = a.path;
  cond = term_tree a.cond;
  output = term_tree a.output;
}

abbrev pub action_trees : List Action → List ActionTree
action_trees xs = map action_tree xs

pub record SystemTree : Type 0 where
  pub actions : List ActionTree

-- the system of the program's actions
abbrev pub system_tree : List Action → SystemTree
system_tree xs = record { actions = action_trees xs }

-- how many indices a step of a path binds
abbrev pub indices_bound : PathStep → ℕ
indices_bound Rep = 1
indices_bound (Found c) = c
indices_bound s = 0

abbrev pub same_step : PathStep → PathStep → Bool
same_step (Side a) (Side b) = same_bit a b
same_step Rep Rep = true
same_step (Branch a) (Branch b) = same_bit a b
same_step (Found c) (Found d) = c == d
same_step NotFound NotFound = true
same_step Done Done = true
same_step _ _ = false

-- both steps are outcomes of one test or of one find, so that only one of them comes about
abbrev pub is_choice : PathStep → PathStep → Bool
is_choice (Branch a) (Branch b) = true
is_choice (Found c) (Found d) = c == d
is_choice (Found c) NotFound = true
is_choice NotFound (Found c) = true
is_choice _ _ = false

-- Two instances, each a path with its indices, are in conflict: the paths agree, indices included,
-- up to a choice and differ there.
abbrev pub in_conflict : List PathStep → List ℕ → List PathStep → List ℕ → Bool
in_conflict (s ∷ p) is (t ∷ q) js =
    if same_step s t && same_numbers (take (indices_bound s) is) (take (indices_bound t) js)
    then in_conflict p (drop (indices_bound s) is) q (drop (indices_bound t) js)
    else is_choice s t
in_conflict _ is _ js = false

-- A choice on a common path, seen without indices: instances whose first `agree` indices are equal
-- are in conflict there, where `differ` is above 0 only if the next `differ` ones are not all
-- equal.
pub record Choice : Type 0 where
  pub agree : ℕ
  pub differ : ℕ

-- two finds that both found exclude each other where their indices differ; n indices were bound
-- before them
abbrev pub found_choice : ℕ → PathStep → List Choice
found_choice n (Found (suc c)) = record { agree = n; differ = suc c } ∷ []
found_choice n s = []

-- the choices on the common path of two actions, from the front on: each find that both found, and
-- the place where the paths part, if that is one
abbrev pub choices_from : ℕ → List PathStep → List PathStep → List Choice
choices_from n (s ∷ p) (t ∷ q) =
    if same_step s t
    then found_choice n s ++ choices_from (n + indices_bound s) p q
    else (if is_choice s t then record { agree = n; differ = 0 } ∷ [] else [])
choices_from n _ _ = []

-- the k-th choice, counted from 0
abbrev pub clash : List PathStep → List PathStep → ℕ → Option Choice
clash p q k = slice_get (choices_from 0 p q) k

-- the choice separates instances with these indices
abbrev pub is_separated : List ℕ → List ℕ → Choice → Bool
is_separated is js c =
    same_numbers (take c.agree is) (take c.agree js)
    && ((c.differ == 0)
    || not (same_numbers (take c.differ (drop c.agree is)) (take c.differ (drop c.agree js))))

-- stands for an action that is not there
abbrev pub no_action : ActionTree
no_action = record { arity = 0; parent = None; path = []; cond = truth; output = empty }

-- action number n of a system
abbrev pub action_at : SystemTree → ℕ → ActionTree
action_at system n = get_or system.actions n no_action
