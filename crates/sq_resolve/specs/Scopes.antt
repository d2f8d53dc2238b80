-- What an identifier means in a scope.
use Rattle.std.specs.Prelude.{ℕ, ◌+◌, ◌-◌, List, [], ◌∷◌, Option, Some, None, if◌then◌else◌}
use Rattle.std.specs.Prelude.{length, slice_get, option_map, ◌==◌}
use Rattle.std.specs.Str.{bytes_eq}
use Rattle.sq_base.specs.declared.sort.Sort.{Sort}
use Rattle.sq_base.specs.declared.sort.Sort.TheVariants.{Message, Index, Timestamp}
use Rattle.sq_term.specs.declared.action.Action.{Action}
use Rattle.sq_term.specs.declared.signature.FunDecl.{FunDecl}
use Rattle.sq_sym.specs.declared.symbol.Symbol.{Symbol}
use Rattle.sq_sym.specs.declared.symbol.Symbol.TheVariants as symbol
use Rattle.sq_sym.specs.Declarations.{found}
use Rattle.sq_system.specs.declared.env.Env.{Env}
use Rattle.sq_resolve.specs.declared.scope.Scope.{Scope}
use Rattle.sq_resolve.specs.declared.scope.Given.{Given}
use Rattle.sq_resolve.specs.declared.scope.Given.TheVariants as given
use Rattle.sq_resolve.specs.declared.head.Head.{Head}
use Rattle.sq_resolve.specs.declared.head.Head.TheVariants as head

-- a variable: its name and its sort
abbrev pub Variable : Type 0
Variable = List ℕ × Sort

-- the scope, with the declarations of the file
pub record Context : Type 0 where
  pub system : ℕ
  pub given : List (List ℕ × Given)
  pub vars : List Variable
  pub schemas : List (List ℕ)
  pub table : List (List ℕ × Symbol)
  pub names : List ℕ
  pub funs : List FunDecl
  pub systems : List (List Action)

abbrev pub context : Scope → List (List ℕ × Symbol) → Env → Context
context s table e =
    record {
      system = s.system;
      given = s.given;
      vars = s.vars;
      schemas = s.schemas;
      table = table;
      names = e.names;
      funs = e.funs;
      systems = e.systems;
    }

-- the place, from k on, and the sort of the last variable with the name; `best` where there is none
abbrev pub last_from : ℕ → Option (ℕ × Sort) → List ℕ → List Variable → Option (ℕ × Sort)
last_from k best x [] = best
last_from k best x (v ∷ vs) =
    last_from (k + 1) (if bytes_eq x v.0 then Some (k, v.1) else best) x vs

-- the last variable with the name
abbrev pub last_of : List ℕ → List Variable → Option (ℕ × Sort)
last_of x vs = last_from 0 None x vs

abbrev pub last_name_from : ℕ → Option ℕ → List ℕ → List (List ℕ) → Option ℕ
last_name_from k best x [] = best
last_name_from k best x (y ∷ ys) =
    last_name_from (k + 1) (if bytes_eq x y then Some k else best) x ys

-- the last schema variable with the name
abbrev pub last_name : List ℕ → List (List ℕ) → Option ℕ
last_name x ys = last_name_from 0 None x ys

abbrev pub first_some : {A : Type 0} → Option A → Option A → Option A
first_some (Some a) o = Some a
first_some None o = o

-- bound variables count from the innermost of n binders
abbrev pub bound_head : ℕ → Option (ℕ × Sort) → Option Head
bound_head n None = None
bound_head n (Some r) = Some (head.Bound (n - 1 - r.0) r.1)

abbrev pub free_head : Option (ℕ × Sort) → Option Head
free_head None = None
free_head (Some r) = Some (head.Free r.0 r.1)

abbrev pub schema_head : Option ℕ → Option Head
schema_head None = None
schema_head (Some k) = Some (head.Schema k Message)

-- the last given identifier with the name
abbrev pub last_given : Option Given → List ℕ → List (List ℕ × Given) → Option Given
last_given best x [] = best
last_given best x (g ∷ gs) = last_given (if bytes_eq x g.0 then Some g.1 else best) x gs

abbrev pub given_head : Option Given → Option Head
given_head None = None
given_head (Some (given.Index k)) = Some (head.Free k Index)
given_head (Some (given.Value k s)) = Some (head.Schema k s)

-- an action of the scope's system
abbrev pub action_head : ℕ → Option (List Action) → Option Head
action_head a None = None
action_head a (Some actions) = option_map (λ x. head.Action a x.arity) (slice_get actions a)

-- names, functions and the actions of the scope's system; all other symbols stand for nothing in a
-- formula
abbrev pub symbol_head : Context → Option (ℕ × Symbol) → Option Head
symbol_head c None = None
symbol_head c (Some (at, symbol.Name n)) = option_map (λ k. head.Name n k) (slice_get c.names n)
symbol_head c (Some (at, symbol.Fun f)) =
    option_map (λ d. head.Function f d.idx d.args d.result) (slice_get c.funs f)
symbol_head c (Some (at, symbol.Action s a)) =
    if s == c.system then action_head a (slice_get c.systems s) else None
symbol_head c (Some (at, s)) = None

-- The meaning of an identifier behind the binders bs, the outermost first: the innermost binder
-- with the name, else what it is given to mean, else a variable, else a schema variable, else a
-- symbol.
abbrev pub meaning : Context → List Variable → List ℕ → Option Head
meaning c bs x =
    first_some (bound_head (length bs) (last_of x bs))
    (first_some (given_head (last_given None x c.given))
    (first_some (free_head (last_of x c.vars))
    (first_some (schema_head (last_name x c.schemas))
    (symbol_head c (found x c.table)))))

-- the sort that it stands for
abbrev pub head_sort : Head → Sort
head_sort (head.Bound k s) = s
head_sort (head.Free k s) = s
head_sort (head.Schema k s) = s
head_sort (head.Name n k) = Message
head_sort (head.Function f i n s) = s
head_sort (head.Action a k) = Timestamp

-- how many arguments it takes, indices and messages together
abbrev pub head_arity : Head → ℕ
head_arity (head.Bound k s) = 0
head_arity (head.Free k s) = 0
head_arity (head.Schema k s) = 0
head_arity (head.Name n k) = k
head_arity (head.Function f i n s) = i + n
head_arity (head.Action a k) = k
