-- A function value that walks trees below a height.
use Rattle.std.specs.Prelude.{◌≡◌, ℕ, ◌<◌, List, Result, OnOk}
use denote.Ref.{Bor, MutBor}
use Rattle.sq_base.specs.declared.sort.Sort.{Sort}
use Rattle.sq_ast.specs.declared.formula.Formula.{Formula}
use Rattle.sq_ast.specs.Deep.{height}
use Rattle.sq_ast.specs.View.{formula_tree}
use Rattle.sq_resolve.specs.declared.fault.ResolveFault.{ResolveFault}
use Rattle.sq_resolve.specs.declared.head.Resolver.{Resolver}
use Rattle.sq_resolve.specs.declared.sized.Built.{Built}
use Rattle.sq_resolve.specs.Built.{Builds}
use Rattle.sq_resolve.specs.Heads.{context_of}
use Rattle.sq_resolve.specs.Resolved.{term_of}
use Rattle.sq_resolve.specs.Scopes.{Variable}

pub record WalksBelow (n : ℕ) (pre : Bor Resolver → MutBor (List Variable) → Sort → Bor Formula
    → Type 0)
    (post : Bor Resolver → MutBor (List Variable) → Sort → Bor Formula → Result Built ResolveFault
    → MutBor (List Variable) → Type 0) : Type 0 where
  pub callable : (r : Bor Resolver) (old : MutBor (List Variable)) (want : Sort) (f : Bor Formula)
      → height (formula_tree f.now) < n → pre r old want f
  pub builds : (r : Bor Resolver) (old new : MutBor (List Variable)) (want : Sort) (f : Bor Formula)
      (b : Result Built ResolveFault) → post r old want f b new
      → Builds b (term_of (context_of r.now) old.now want (formula_tree f.now))
  pub kept : (r : Bor Resolver) (old new : MutBor (List Variable)) (want : Sort) (f : Bor Formula)
      (b : Result Built ResolveFault) → post r old want f b new → OnOk b (new.now ≡ old.now)
