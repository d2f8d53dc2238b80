-- What the names of a scope and of the binders around a place stand for.
use Rattle.std.proofs.Common.{◌≡◌, ◌+◌, ℕ, suc, true, List, [], length, map, reverse, Some}
use Rattle.std.proofs.Common.{None, slice_get}
use Rattle.sq_base.specs.declared.sort.Sort.{Sort}
use Rattle.sq_token.specs.Kinds.{IsIdentifier}
use Rattle.sq_sym.specs.declared.symbol.Symbol.{Symbol}
use Rattle.sq_sym.specs.declared.symbol.Symbol.TheVariants as symbol
use Rattle.sq_sym.specs.Declarations.{found}
use Rattle.sq_term.specs.declared.builtin.Builtin.{Builtin}
use Rattle.sq_term.specs.Builtins.{builtin_kind}
use Rattle.sq_term.specs.Symbols.{declared_number, function_number}
use Rattle.sq_term.specs.declared.action.Action.{Action}
use Rattle.sq_typing.specs.Functions.{builtin_functions}
use Rattle.sq_typing.specs.Typing.{Signature, has_sort_at}
use Rattle.sq_print.specs.Names.{Names, is_name, is_function, is_action, spelling, is_used}
use Rattle.sq_resolve.specs.Scopes.{Variable, Context, last_of, last_name}
use Rattle.sq_readback.specs.Readable.{Declares}

-- the names are those of the scope
pub record AreNamesOf (ns : Names) (c : Context) : Type 0 where
  pub vars : ns.vars ≡ map (λ v. v.0) c.vars
  pub schemas : ns.schemas ≡ c.schemas
  pub system : ns.system ≡ c.system
  pub table : ns.table ≡ c.table

-- what a term of the scope may speak of, where its system has these actions
abbrev pub signature : Context → List Action → Signature
signature c own =
    record {
      names = c.names;
      funs = c.funs;
      actions = map
          (λ a. a.arity) own;
      schemas = length c.schemas;
      vars = map (λ v. v.1) c.vars;
    }

-- the table declares the symbol by this name, and neither a variable nor a schema variable has it
pub record IsDeclared (c : Context) (x : List ℕ) (s : Symbol) : Type 0 where
  pub identifier : IsIdentifier x
  pub place : ℕ
  pub found_is : found x c.table ≡ Some (place, s)
  pub no_variable : last_of x c.vars ≡ None
  pub no_schema : last_name x c.schemas ≡ None

-- Each name is an identifier and stands for one thing, the names of declared symbols too.
pub record IsPlain (c : Context) (own : List Action) : Type 0 where
  pub nothing_given : c.given ≡ []
  pub vars : (k : ℕ) (v : Variable) → slice_get c.vars k ≡ Some v
      → IsIdentifier v.0 × (last_of v.0 c.vars ≡ Some (k, v.1))
  pub schemas : (k : ℕ) (x : List ℕ) → slice_get c.schemas k ≡ Some x
      → IsIdentifier x × (last_of x c.vars ≡ None) × (last_name x c.schemas ≡ Some k)
  pub names : (n : ℕ) → Declares c.table (symbol.Name n)
      → IsDeclared c (spelling (is_name n) c.table) (symbol.Name n)
  pub functions : (k : ℕ) → Declares c.table (symbol.Fun (declared_number k))
      → IsDeclared c (spelling (is_function (declared_number k)) c.table)
      (symbol.Fun (declared_number k))
  pub builtin : (b : Builtin) → slice_get c.funs (function_number (builtin_kind b))
      ≡ slice_get builtin_functions (function_number (builtin_kind b))
  pub actions_are : (a : ℕ) (x : Action) → slice_get own a ≡ Some x
      → slice_get c.systems c.system ≡ Some own
  pub actions : (a : ℕ) → Declares c.table (symbol.Action c.system a)
      → IsDeclared c (spelling (is_action c.system a) c.table) (symbol.Action c.system a)

-- the k-th binder from inside
pub record Bound (bs : List Variable) (k : ℕ) (s : Sort) : Type 0 where
  pub x : List ℕ
  pub place : ℕ
  pub there : slice_get (reverse (map (λ v. v.0) bs)) k ≡ Some x
  pub identifier : IsIdentifier x
  pub last : last_of x bs ≡ Some (place, s)
  pub from_inside : place + suc k ≡ length bs

-- Binders around, the outermost first, whose sorts, the innermost first, are ss: each has a name of
-- its own, which is no other's.
pub record StandAround (ns : Names) (bs : List Variable) (ss : List Sort) : Type 0 where
  pub inner : (k : ℕ) (s : Sort) → has_sort_at ss k s ≡ true → Bound bs k s
  pub unused : (x : List ℕ) → is_used ns x ≡ true → last_of x bs ≡ None
