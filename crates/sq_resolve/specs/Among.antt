-- The first places of a tree, judged one after another.
use Rattle.std.specs.Prelude.{◌≡◌, ◌≢◌, ◌-◌, ℕ, List, [], ◌∷◌, Option, Some, None, Result, Ok, Err}
use Rattle.std.specs.Prelude.{length, take, nat_lt, if◌then◌else◌}
use Rattle.sq_base.specs.declared.sort.Sort.{Sort}
use Rattle.sq_base.specs.declared.sort.Sort.TheVariants.{Message, Index}
use Rattle.sq_resolve.specs.declared.fault.ResolveFault.{ResolveFault}
use Rattle.sq_resolve.specs.declared.fault.ResolveFault.TheVariants.{NoMemory}
use Rattle.sq_resolve.specs.Places.{Place, first_fault}
use Rattle.sq_resolve.specs.Scopes.{Context}

-- a call that answers the fault, if there is one
abbrev pub Tells : {A : Type 0} → Result A ResolveFault → Option ResolveFault → Type 0
Tells (Ok a) o = o ≡ None
Tells (Err e) o = e ≢ NoMemory → o ≡ Some e

-- A call that judges the first n of these places: how many of n are left behind them, or the fault
-- of the first that has one.
abbrev pub Judges : Context → ℕ → List Place → Result ℕ ResolveFault → Type 0
Judges c n ps (Ok k) = (first_fault c (take n ps) ≡ None) × (k ≡ n - length ps)
Judges c n ps (Err e) = e ≢ NoMemory → first_fault c (take n ps) ≡ Some e

-- the places behind the root
abbrev pub behind : List Place → List Place
behind [] = []
behind (p ∷ ps) = ps

-- what is wanted of an argument, the first of which are indices
abbrev pub argument_sort : ℕ → ℕ → Sort
argument_sort at indices = if nat_lt at indices then Index else Message
