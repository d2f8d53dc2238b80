-- When the formula of a list is true: some entry is met at values of its binders.
use Rattle.std.specs.Prelude.{◌≡◌, ◌↔◌, ℕ, List, [], map, length, Bool, true}
use Rattle.sq_term.specs.declared.model.Value.{Value}
use Rattle.sq_term.specs.declared.term.Idx.{Idx}
use Rattle.sq_term.specs.Closed.{indices_closed}
use Rattle.sq_term.specs.Ground.{Ground}
use Rattle.sq_term.specs.GroundOccurrences as ground
use Rattle.sq_term.specs.GroundOccurrences.{Role}
use Rattle.sq_term.specs.Lists.{Member, Each}
use Rattle.sq_term.specs.Symbols.{Kind}
use Rattle.sq_term.specs.Syntax.{TermTree}
use Rattle.sq_term.specs.Translate.{World, Assignment, idx_values, translate}
use Rattle.sq_ground.specs.Holding.{Fits}
use Rattle.sq_ground.specs.Truth.{IsTrueAt}
use Rattle.sq_occ.specs.Entries.{RoleTree, bare, public, key, OccTree}
use Rattle.sq_occ.specs.Listed.{IsListed}
use Rattle.sq_occ.specs.Facts.{disj_of, entry_formula}

-- values of the entry's binders make its guard true, its indices those of the name, and true what
-- more is asked
pub record IsMet (w : World) (a : Assignment) (v : Ground → Bool) (is : List Idx) (u : OccTree)
    (more : List TermTree) : Type 0 where
  pub values : List Value
  pub fit : Fits w.times u.bound values
  pub guard : IsTrueAt v (translate w a values u.guard)
  pub numbers : idx_values a values u.args ≡ idx_values a [] is
  pub others : Each (λ t. IsTrueAt v (translate w a values t)) more

-- the disjunction over a list, where more is asked of each entry
abbrev pub occurs_with : List Idx → (OccTree → List TermTree) → List OccTree → TermTree
occurs_with is more us = disj_of (map (λ u. entry_formula is u (more u)) us)

-- Under each valuation the disjunction is true exactly where an entry is met.
abbrev pub FormulaSaysWhatIsMet : Type 0
FormulaSaysWhatIsMet =
    (w : World) (a : Assignment) (v : Ground → Bool) (is : List Idx)
    (more : OccTree → List TermTree) (us : List OccTree)
    → indices_closed 0 is ≡ true → Each (λ u. length is ≡ length u.args) us
    → IsTrueAt v (translate w a [] (occurs_with is more us))
    ↔ ((u : OccTree) × Member us u × IsMet w a v is u (more u))

-- the role is that of a key of f
abbrev pub IsKeyRole : Kind → RoleTree → Type 0
IsKeyRole f bare = ⊥
IsKeyRole f public = ⊥
IsKeyRole f (key g m test) = g ≡ f

-- the message of a key's role
abbrev pub HasMessage : RoleTree → TermTree → Type 0
HasMessage bare m = ⊥
HasMessage public m = ⊥
HasMessage (key f n test) m = n ≡ m

-- the occurrence is as a key of f, with the value of the entry's message
pub record IsKeyOfMessage (w : World) (a : Assignment) (js : List ℕ) (f : Kind) (r : Role)
    (us : List OccTree) (h : IsListed w a js r us) : Type 0 where
  pub message : TermTree
  pub is_message : HasMessage h.entry.role message
  pub test : Bool
  pub role_is : r ≡ ground.key f (translate w a h.values message) test

-- Where each entry is a key of f, each occurrence that the list has is one, of the message of its
-- entry.
abbrev pub KeysAlone : Type 0
KeysAlone =
    (w : World) (a : Assignment) (js : List ℕ) (f : Kind) (r : Role) (us : List OccTree)
    → Each (λ u. IsKeyRole f u.role) us → (h : IsListed w a js r us)
    → IsKeyOfMessage w a js f r us h
