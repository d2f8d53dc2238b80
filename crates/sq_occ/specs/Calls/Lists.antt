-- A list that grows within a room.
use Rattle.std.specs.Prelude.{◌≡◌, ◌≢◌, ◌<◌, ◌≤◌, ◌+◌, ℕ, List, ◌++◌, Result, Ok, Err}
use Rattle.sq_term.specs.Lists.{Each}
use Rattle.sq_term.specs.Measure.{depth}
use Rattle.sq_system.specs.Limits.{most_depth}
use Rattle.sq_system.specs.declared.fault.OccFault.{OccFault}
use Rattle.sq_system.specs.declared.fault.OccFault.TheVariants.{TooLarge, NoMemory}
use Rattle.sq_occ.specs.Entries.{RoleTree, bare, public, key, OccTree}
use Rattle.sq_occ.specs.declared.list.List.{List as ListOf}
use Rattle.sq_occ.specs.Sizes.{list_nodes}
use Rattle.sq_occ.specs.Calls.Views.{occ_trees}

-- the entries so far, and how many nodes more may take
pub record Growing : Type 0 where
  pub entries : List OccTree
  pub room : ℕ

abbrev pub growing : ListOf → Growing
growing l = record { entries = occ_trees l.entries; room = l.room }

-- the message of a key is no deeper than a term of a sequent may be
abbrev pub IsShallowRole : RoleTree → Type 0
IsShallowRole bare = Unit {0}
IsShallowRole public = Unit {0}
IsShallowRole (key f m test) = depth m ≤ most_depth

abbrev pub HaveShallowMessages : List OccTree → Type 0
HaveShallowMessages us = Each (λ u. IsShallowRole u.role) us

-- refused for want of memory, or since they would pass the room where no message is too deep
abbrev pub Refuses : OccFault → ℕ → List OccTree → Type 0
Refuses e room us =
    e ≢ NoMemory → (e ≡ TooLarge) × (HaveShallowMessages us → room < list_nodes us)

-- entries were added at the end, or refused
abbrev pub Adds : {A : Type 0} → Growing → Growing → Result A OccFault → List OccTree → Type 0
Adds old new (Ok v) us =
    (new.entries ≡ old.entries ++ us) × (new.room + list_nodes us ≡ old.room)
Adds old new (Err e) us = Refuses e old.room us
