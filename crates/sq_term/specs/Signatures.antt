-- What the list of functions says of a function: its role, and whether its result is a Boolean.
use Rattle.std.specs.Prelude.{ℕ, suc, List, get_or, Bool, true, false, ◌&&◌}
use Rattle.sq_base.specs.declared.sort.Sort.{Sort}
use Rattle.sq_base.specs.declared.sort.Sort.TheVariants.{Message, Boolean}
use Rattle.sq_term.specs.declared.signature.FunDecl.{FunDecl}
use Rattle.sq_term.specs.declared.signature.FunRole.{FunRole}
use Rattle.sq_term.specs.declared.signature.FunRole.TheVariants.{Plain, Hash, Sign, Check, Pk}
use Rattle.sq_term.specs.Symbols.{Kind, equality, declared, declared_number}
use Rattle.sq_term.specs.Builtins.{gives_boolean}

-- stands for a function that is not there
abbrev pub no_function : FunDecl
no_function = record { idx = 0; args = 0; result = Message; role = Plain }

-- the declared function of this number
abbrev pub declared_at : List FunDecl → ℕ → FunDecl
declared_at funs k = get_or funs (declared_number k) no_function

-- the built-in functions are plain
abbrev pub function_role : List FunDecl → Kind → FunRole
function_role funs (declared k) = (declared_at funs k).role
function_role funs kind = Plain

abbrev pub is_hash : FunRole → Bool
is_hash Hash = true
is_hash role = false

abbrev pub is_sign : FunRole → Bool
is_sign Sign = true
is_sign role = false

-- the second argument is a key
abbrev pub is_keyed : FunRole → Bool
is_keyed Hash = true
is_keyed Sign = true
is_keyed role = false

abbrev pub is_check : FunRole → Bool
is_check Check = true
is_check role = false

abbrev pub is_pk : FunRole → Bool
is_pk Pk = true
is_pk role = false

-- the declared functions k, k + 1 and k + 2 are sign, checksign and pk of one signature
abbrev pub is_signature : List FunDecl → ℕ → Bool
is_signature funs k =
    is_sign (declared_at funs k).role
    && (is_check (declared_at funs (suc k)).role && is_pk (declared_at funs (suc (suc k))).role)

abbrev pub is_equality : Kind → Bool
is_equality equality = true
is_equality kind = false

abbrev pub is_boolean_sort : Sort → Bool
is_boolean_sort Boolean = true
is_boolean_sort sort = false

-- the function gives a Boolean
abbrev pub is_boolean_function : List FunDecl → Kind → Bool
is_boolean_function funs (declared k) = is_boolean_sort (declared_at funs k).result
is_boolean_function funs kind = gives_boolean kind
