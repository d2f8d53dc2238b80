-- The names that a text is printed with.
use Rattle.std.specs.Prelude.{ℕ, zero, suc, ◌+◌, Bool, false, ◌&&◌, ◌||◌, nat_eq, List, []}
use Rattle.std.specs.Prelude.{◌∷◌, ◌++◌, length, unwrap_or, is_some, slice_get}
use Rattle.std.specs.Prelude.{codes, if◌then◌else◌}
use Rattle.sq_base.specs.declared.sort.Sort.{Sort}
use Rattle.sq_base.specs.declared.sort.Sort.TheVariants as sort
use Rattle.sq_term.specs.Builtins.{word}
use Rattle.sq_term.specs.Symbols.{Kind, function_number}
use Rattle.sq_sym.specs.declared.symbol.Symbol.{Symbol}
use Rattle.sq_sym.specs.declared.symbol.Symbol.TheVariants as symbol
use Rattle.sq_sym.specs.Candidates.{candidate, among}
use Rattle.sq_sym.specs.Declarations.{found}

-- the names of the schema variables and of the variables, the number of the system, and the table
pub record Names : Type 0 where
  pub schemas : List (List ℕ)
  pub vars : List (List ℕ)
  pub system : ℕ
  pub table : List (List ℕ × Symbol)

-- the name at a place, or nothing past the end
abbrev pub text_at : List (List ℕ) → ℕ → List ℕ
text_at names k = unwrap_or (slice_get names k) []

abbrev pub is_name : ℕ → Symbol → Bool
is_name n (symbol.Name m) = nat_eq m n
is_name n _ = false

abbrev pub is_function : ℕ → Symbol → Bool
is_function f (symbol.Fun g) = nat_eq g f
is_function f _ = false

abbrev pub is_action : ℕ → ℕ → Symbol → Bool
is_action system a (symbol.Action other b) = nat_eq other system && nat_eq b a
is_action system a _ = false

-- the name of the first declaration whose symbol passes the test, or nothing
abbrev pub spelling : (Symbol → Bool) → List (List ℕ × Symbol) → List ℕ
spelling test [] = []
spelling test (d ∷ ds) = if test d.1 then d.0 else spelling test ds

unfoldable pub name_word : Names → ℕ → List ℕ
name_word ns n = spelling (is_name n) ns.table

unfoldable pub action_word : Names → ℕ → List ℕ
action_word ns a = spelling (is_action ns.system a) ns.table

-- its own word, or the table's
unfoldable pub function_word : Names → Kind → List ℕ
function_word ns f = unwrap_or (word f) (spelling (is_function (function_number f)) ns.table)

-- whether a text is a symbol of the table, a variable or a schema variable
abbrev pub is_used : Names → List ℕ → Bool
is_used ns text = is_some (found text ns.table) || (among text ns.vars || among text ns.schemas)

-- what the names of bound variables begin with: i for an index, t for a timestamp
abbrev pub stem : Sort → List ℕ
stem sort.Timestamp = codes "t"
stem sort.Index = codes "i"
stem sort.Message = codes "i"
stem sort.Boolean = codes "i"

-- the first candidate from the k-th on that is neither used nor the name of a binder around,
-- or the last of so many
abbrev pub first_free : Names → List (List ℕ) → List ℕ → ℕ → ℕ → List ℕ
first_free ns around s zero k = candidate s k
first_free ns around s (suc left) k =
    if is_used ns (candidate s k) || among (candidate s k) around
    then first_free ns around s left (k + 1)
    else candidate s k

-- how many names a bound variable may not have
abbrev pub names_count : Names → List (List ℕ) → ℕ
names_count ns around = length ns.table + (length ns.vars + length ns.schemas) + length around

-- the name of a variable that is bound below these binders, which are listed from outside in
unfoldable pub binder_name : Names → List (List ℕ) → Sort → List ℕ
binder_name ns around s = first_free ns around (stem s) (names_count ns around) 0

-- the names of the indices that a find binds
abbrev pub bound_names : Names → List (List ℕ) → ℕ → List (List ℕ)
bound_names ns around zero = []
bound_names ns around (suc n) =
    binder_name ns around sort.Index ∷ bound_names ns
    (around ++ binder_name ns around sort.Index ∷ []) n
