-- What an entry of an occurrence list says.
use Rattle.std.specs.Prelude.{ℕ, zero, suc, List, ◌∷◌, Bool}
use Rattle.sq_base.specs.declared.sort.Sort.{Sort}
use Rattle.sq_base.specs.declared.sort.Sort.TheVariants.{Index}
use Rattle.sq_term.specs.declared.term.Idx.{Idx}
use Rattle.sq_term.specs.Formulas.{truth}
use Rattle.sq_term.specs.Symbols.{Kind}
use Rattle.sq_term.specs.Syntax.{TermTree}

-- `key f m test`: the second argument of f(m,n), for a hash or a signing function f; it is a test
-- where f is a hash and that application is itself a side of an equation. `public`: the argument of
-- a public key. `bare`: any other place.
pub data RoleTree : Type 0 where
  bare public : RoleTree
  key : Kind → TermTree → Bool → RoleTree

-- A place of a name: its indices, its role, the sorts of the binders above it with the innermost
-- first, and the condition under which it is met. Indices, message and guard stand in the scope of
-- all these binders.
pub record OccTree : Type 0 where
  pub name : ℕ
  pub args : List Idx
  pub role : RoleTree
  pub bound : List Sort
  pub guard : TermTree

-- outside macros a place is met whatever comes about
abbrev pub place : ℕ → List Idx → RoleTree → List Sort → OccTree
place n is role b = record { name = n; args = is; role = role; bound = b; guard = truth }

-- c more indices are bound within
abbrev pub with_indices : ℕ → List Sort → List Sort
with_indices zero b = b
with_indices (suc c) b = with_indices c (Index ∷ b)
