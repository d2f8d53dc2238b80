-- The functions of a signature: the built-in ones, and the declared ones.
use Rattle.std.specs.Prelude.{ℕ, List, [], ◌∷◌, map, Bool, true, false, if◌then◌else◌, ◌&&◌, ◌||◌}
use Rattle.std.specs.Prelude.{◌==◌}
use Rattle.sq_base.specs.declared.sort.Sort.{Sort}
use Rattle.sq_base.specs.declared.sort.Sort.TheVariants.{Message, Boolean}
use Rattle.sq_term.specs.declared.signature.FunDecl.{FunDecl}
use Rattle.sq_term.specs.declared.signature.FunRole.{FunRole}
use Rattle.sq_term.specs.declared.signature.FunRole.TheVariants.{Plain, Hash, Sign, Check, Pk}
use Rattle.sq_term.specs.Builtins.{arguments, gives_boolean}
use Rattle.sq_term.specs.Symbols.{Kind, builtin_kinds}
use Rattle.sq_term.specs.TreeEquality.{is_same_sort}

-- a function without indices
abbrev pub plain_function : ℕ → Sort → FunDecl
plain_function n s = record { idx = 0; args = n; result = s; role = Plain }

abbrev pub builtin_function : Kind → FunDecl
builtin_function k = plain_function (arguments k) (if gives_boolean k then Boolean else Message)

-- the built-in functions in the order of their numbers
abbrev pub builtin_functions : List FunDecl
builtin_functions = map builtin_function builtin_kinds

abbrev pub is_value_sort : Sort → Bool
is_value_sort s = is_same_sort s Message || is_same_sort s Boolean

abbrev pub same_role : FunRole → FunRole → Bool
same_role Plain Plain = true
same_role Hash Hash = true
same_role Sign Sign = true
same_role Check Check = true
same_role Pk Pk = true
same_role _ _ = false

-- a function of the role without indices
abbrev pub is_function : FunDecl → ℕ → Sort → FunRole → Bool
is_function d n s r =
    (d.idx == 0) && ((d.args == n) && (is_same_sort d.result s && same_role d.role r))

-- a plain function with a message or a Boolean, or a hash of a message under a key
abbrev pub stands_alone : FunDecl → Bool
stands_alone d = (same_role d.role Plain && is_value_sort d.result) || is_function d 2 Message Hash

-- what may come next in the list of declared functions
pub data Next : Type 0 where
  any_function : Next
  check_of_signature : Next
  key_of_signature : Next

-- Declared functions: the three of one signature stand one behind the other.
abbrev pub are_declared : Next → List FunDecl → Bool
are_declared any_function [] = true
are_declared check_of_signature [] = false
are_declared key_of_signature [] = false
are_declared any_function (d ∷ ds) =
    if same_role d.role Sign
    then is_function d 2 Message Sign && are_declared check_of_signature ds
    else stands_alone d && are_declared any_function ds
are_declared check_of_signature (d ∷ ds) =
    is_function d 3 Boolean Check && are_declared key_of_signature ds
are_declared key_of_signature (d ∷ ds) = is_function d 1 Message Pk && are_declared any_function ds

abbrev pub same_function : FunDecl → FunDecl → Bool
same_function d e =
    (d.idx == e.idx)
    && ((d.args == e.args) && (is_same_sort d.result e.result && same_role d.role e.role))

-- the first functions, and the rest declared
abbrev pub begins_with : List FunDecl → List FunDecl → Bool
begins_with [] fs = are_declared any_function fs
begins_with (d ∷ ds) [] = false
begins_with (d ∷ ds) (f ∷ fs) = same_function d f && begins_with ds fs

-- the functions of a signature: the built-in ones, and then the declared ones
abbrev pub are_functions : List FunDecl → Bool
are_functions fs = begins_with builtin_functions fs
