-- Sorts of ground terms, by the functions.
use Rattle.std.specs.Prelude.{◌≡◌, ℕ, suc, List, length, slice_get, Bool, true, ◌&&◌}
use Rattle.sq_base.specs.declared.sort.Sort.{Sort}
use Rattle.sq_base.specs.declared.sort.Sort.TheVariants.{Message}
use Rattle.sq_term.specs.declared.signature.FunDecl.{FunDecl}
use Rattle.sq_term.specs.Symbols.{Kind, function_number}
use Rattle.sq_term.specs.Ground.{Ground, named, applied, atom, Grounds, none, more}
use Rattle.sq_term.specs.TreeEquality.{is_same_sort}
use Rattle.sq_ground.specs.Conclusions.{count_grounds}
use Rattle.sq_typing.specs.Typing.{applies, result_sort, argument_sort}

-- The ground term has the sort. Names and atoms are messages; a function has the sort of its
-- result, where it has its counts of numbers and arguments and each argument has its sort.
abbrev mutual
  pub has_ground_sort : List FunDecl → Sort → Ground → Bool
  has_ground_sort funs s (named n is) = is_same_sort Message s
  has_ground_sort funs s (applied f is ts) =
      is_same_sort (result_sort (slice_get funs (function_number f))) s
      && (applies (slice_get funs (function_number f)) (length is) (count_grounds ts)
      && have_ground_sorts funs f 0 ts)
  has_ground_sort funs s (atom k) = is_same_sort Message s

  -- the arguments of function f from number k on
  pub have_ground_sorts : List FunDecl → Kind → ℕ → Grounds → Bool
  have_ground_sorts funs f k none = true
  have_ground_sorts funs f k (more t ts) =
      has_ground_sort funs (argument_sort f k) t && have_ground_sorts funs f (suc k) ts

-- a ground term of sort message
abbrev pub IsMessage : List FunDecl → Ground → Type 0
IsMessage funs t = has_ground_sort funs Message t ≡ true
