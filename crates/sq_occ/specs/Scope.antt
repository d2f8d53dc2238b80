-- What an entry speaks of.
use Rattle.std.specs.Prelude.{◌≡◌, ℕ, List, [], Bool, true}
use Rattle.sq_base.specs.declared.sort.Sort.{Sort}
use Rattle.sq_base.specs.declared.sort.Sort.TheVariants.{Message, Boolean}
use Rattle.sq_term.specs.Lists.{Each}
use Rattle.sq_term.specs.Pure.{is_binder_sort}
use Rattle.sq_term.specs.Syntax.{TermTree}
use Rattle.sq_term.specs.Systems.{SystemTree}
use Rattle.sq_typing.specs.Functions.{are_functions}
use Rattle.sq_typing.specs.Typing.{Signature, are_indices, has_sort}
use Rattle.sq_system.specs.Scopes.{signature_of}
use Rattle.sq_system.specs.Statements.{EnvTree}
use Rattle.sq_system.specs.WellFormed.{is_well_sorted}
use Rattle.sq_occ.specs.Entries.{RoleTree, bare, public, key, OccTree}
use Rattle.sq_occ.specs.Searches.{side_places}
use Rattle.sq_occ.specs.Listed.{side_of}

-- the message of a key is a message below these binders
abbrev pub IsRoleInScope : Signature → List Sort → RoleTree → Type 0
IsRoleInScope g b bare = Unit {0}
IsRoleInScope g b public = Unit {0}
IsRoleInScope g b (key f m test) = has_sort g b Message m ≡ true

-- the binders bind indices and timestamps, and what the entry says is well-sorted below them
pub record IsInScope (g : Signature) (u : OccTree) : Type 0 where
  pub binders : Each (λ b. is_binder_sort b ≡ true) u.bound
  pub indices : are_indices g u.bound u.args ≡ true
  pub message : IsRoleInScope g u.bound u.role
  pub guard : has_sort g u.bound Boolean u.guard ≡ true

-- each entry of a well-sorted term is in the scope of the term's variables and of its own binders
abbrev pub EntriesAreInScope : Type 0
EntriesAreInScope =
    (e : EnvTree) (s : SystemTree) (left : Bool) (n schemas : ℕ) (vars : List Sort) (sort : Sort)
    (t : TermTree) → are_functions e.funs ≡ true → is_well_sorted e s ≡ true
    → has_sort (signature_of e s schemas vars) [] sort t ≡ true
    → Each (IsInScope (signature_of e s schemas vars)) (side_places e.funs n (side_of left) s t)
