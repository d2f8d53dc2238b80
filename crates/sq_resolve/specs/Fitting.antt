-- Signatures in which the terms of a scope are well-sorted, with terms in the places of its schema
-- variables.
use Rattle.std.specs.Prelude.{◌≡◌, ℕ, ◌<◌, List, [], map, reverse, length, slice_get, unwrap_or}
use Rattle.std.specs.Prelude.{Some, true}
use Rattle.sq_base.specs.declared.sort.Sort.{Sort}
use Rattle.sq_base.specs.declared.sort.Sort.TheVariants.{Message, Index}
use Rattle.sq_sym.specs.declared.symbol.Symbol.TheVariants as symbol
use Rattle.sq_term.specs.declared.action.Action.{Action}
use Rattle.sq_term.specs.declared.signature.FunDecl.{FunDecl}
use Rattle.sq_term.specs.declared.term.Idx.TheVariants.{Free}
use Rattle.sq_term.specs.Arguments.{ArgTree, an_index}
use Rattle.sq_term.specs.Symbols.{IsDeclared, kind_of}
use Rattle.sq_term.specs.Syntax.{TermTree, schema}
use Rattle.sq_typing.specs.Functions.{are_functions}
use Rattle.sq_typing.specs.Typing.{Signature, has_sort_at, has_count_at, has_sort}
use Rattle.sq_subst.specs.Leaves.{map_term}
use Rattle.sq_subst.specs.Substitution.{substitution}
use Rattle.sq_resolve.specs.declared.scope.Given.{Given}
use Rattle.sq_resolve.specs.declared.scope.Given.TheVariants as given
use Rattle.sq_resolve.specs.Scopes.{Variable, Context}

-- the term with these terms in the places of its schema variables, and these arguments in the
-- places of the variables that binders around it would bind, the innermost first
abbrev pub filled : List TermTree → List ArgTree → TermTree → TermTree
filled values outer u = map_term (substitution [] outer values) 0 u

-- what stands in the place of schema variable k
abbrev pub filling : List TermTree → ℕ → TermTree
filling values k = unwrap_or (slice_get values k) (schema k)

-- the sorts of binders, the innermost first
abbrev pub binder_sorts : List Variable → List Sort
binder_sorts bs = reverse (map (λ v. v.1) bs)

-- what an identifier is given to mean is there
abbrev pub HasGiven : Signature → List TermTree → Given → Type 0
HasGiven g values (given.Index k) = has_sort_at g.vars k Index ≡ true
HasGiven g values (given.Value k s) = has_sort g [] s (filling values k) ≡ true

-- What an identifier of the scope may mean is there in the signature, by the same number and with
-- the same counts and sorts.
pub record Fits (c : Context) (g : Signature) (values : List TermTree) : Type 0 where
  pub builtin : are_functions g.funs ≡ true
  pub given : (k : ℕ) (x : List ℕ) (m : Given) → slice_get c.given k ≡ Some (x, m)
      → HasGiven g values m
  pub vars : (k : ℕ) (v : Variable) → slice_get c.vars k ≡ Some v → has_sort_at g.vars k v.1 ≡ true
  pub schemas : (k : ℕ) → k < length c.schemas → has_sort g [] Message (filling values k) ≡ true
  pub names : (n k : ℕ) → slice_get c.names n ≡ Some k → has_count_at g.names n k ≡ true
  pub funs : (f : ℕ) (d : FunDecl) → slice_get c.funs f ≡ Some d → slice_get g.funs f ≡ Some d
  -- the table names declared functions alone
  pub declared : (k : ℕ) (x : List ℕ) (f : ℕ) → slice_get c.table k ≡ Some (x, symbol.Fun f)
      → IsDeclared (kind_of f)
  pub actions : (own : List Action) (a : ℕ) (x : Action) → slice_get c.systems c.system ≡ Some own
      → slice_get own a ≡ Some x → has_count_at g.actions a x.arity ≡ true

-- each argument is a free index of the signature
abbrev pub IsFreeIndex : Signature → ArgTree → Type 0
IsFreeIndex g (an_index (Free k)) = has_sort_at g.vars k Index ≡ true
IsFreeIndex g a = ⊥

abbrev pub AreFreeIndices : Signature → List ArgTree → Type 0
AreFreeIndices g outer = (k : ℕ) (a : ArgTree) → slice_get outer k ≡ Some a → IsFreeIndex g a
