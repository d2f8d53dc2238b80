-- Functions: the fourteen that every file has, and the declared ones behind them.
use Rattle.std.specs.Prelude.{ℕ, zero, suc, ◌+◌, List, [], ◌∷◌, Bool, true, false, ◌==◌}

pub data Kind : Type 0 where
  empty truth falsity negation conjunction disjunction implication equality : Kind
  conditional pairing first second of_bool attacker : Kind
  declared : ℕ → Kind

abbrev pub IsDeclared : Kind → Type 0
IsDeclared (declared k) = Unit {0}
IsDeclared kind = ⊥

-- equal functions
abbrev pub same_kind : Kind → Kind → Bool
same_kind empty empty = true
same_kind truth truth = true
same_kind falsity falsity = true
same_kind negation negation = true
same_kind conjunction conjunction = true
same_kind disjunction disjunction = true
same_kind implication implication = true
same_kind equality equality = true
same_kind conditional conditional = true
same_kind pairing pairing = true
same_kind first first = true
same_kind second second = true
same_kind of_bool of_bool = true
same_kind attacker attacker = true
same_kind (declared j) (declared k) = j == k
same_kind _ _ = false

-- the program's terms hold a function by its number: its place in this list, or behind it
abbrev pub builtin_kinds : List Kind
builtin_kinds =
    empty ∷ truth ∷ falsity ∷ negation ∷ conjunction ∷ disjunction ∷ implication ∷ equality
    ∷ conditional ∷ pairing ∷ first ∷ second ∷ of_bool ∷ attacker ∷ []

abbrev pub kind_among : List Kind → ℕ → Kind
kind_among [] n = declared n
kind_among (k ∷ ks) zero = k
kind_among (k ∷ ks) (suc n) = kind_among ks n

abbrev pub kind_of : ℕ → Kind
kind_of n = kind_among builtin_kinds n

abbrev pub declared_number : ℕ → ℕ
declared_number k = k + 14

abbrev pub function_number : Kind → ℕ
function_number empty = 0
function_number truth = 1
function_number falsity = 2
function_number negation = 3
function_number conjunction = 4
function_number disjunction = 5
function_number implication = 6
function_number equality = 7
function_number conditional = 8
function_number pairing = 9
function_number first = 10
function_number second = 11
function_number of_bool = 12
function_number attacker = 13
function_number (declared k) = declared_number k
