-- A scope and a term in it that can be read back.
use Rattle.std.proofs.Common.{◌≡◌, ℕ, zero, suc, List, [], ◌∷◌, Some, None, slice_get}
use Rattle.std.proofs.Common.{codes, refl, subst, arith}
use Rattle.sq_base.specs.declared.sort.Sort.TheVariants.{Boolean, Index, Timestamp}
use Rattle.sq_sym.specs.declared.symbol.Symbol.TheVariants as symbol
use Rattle.sq_sym.specs.Declarations.{found}
use Rattle.sq_term.specs.declared.term.Idx.TheVariants.{Free, Bound}
use Rattle.sq_term.specs.Formulas.{equal}
use Rattle.sq_term.specs.Syntax.{TermTree, name, some}
use Rattle.sq_typing.specs.Functions.{builtin_functions}
use Rattle.sq_resolve.specs.Scopes.{Context}
use Rattle.sq_readback.specs.Readable.{HasPlainNames, Declares, own_names, IsReadable, HasFewNames}
use Rattle.sq_readback.specs.Calls.{IsWithinLimits}
use Rattle.sq_readback.proofs.Stems.{candidate_named}

-- the index variable `i`, and the name `t` of one index
abbrev pub scope : Context
scope = record {
  system = 0;
  given = [];
  vars = (codes "i", Index) ∷ [];
  schemas = [];
  table =
      (codes "t", symbol.Name 0) ∷ [];
  names = 1 ∷ [];
  funs = builtin_functions;
  systems = [];
}

-- exists (i1:index), t(i1) = t(i)
abbrev pub term : TermTree
term = some Index (equal (name 0 (Bound 0 ∷ [])) (name 0 (Free 0 ∷ [])))

one_place : (j k : ℕ) (x : List ℕ) → slice_get (own_names scope) j ≡ Some x
    → slice_get (own_names scope) k ≡ Some x → j ≡ k
one_place zero zero x e f = refl
one_place zero (suc k) x e f = cc
one_place (suc j) k x e f = cc

no_symbol : (k : ℕ) (x : List ℕ) → slice_get (own_names scope) k ≡ Some x
    → found x scope.table ≡ None
no_symbol zero x e = let same : codes "i" ≡ x =
    cc in subst (λ y. found y scope.table ≡ None) same refl
no_symbol (suc k) x e = cc

name_declared : Declares scope.table (symbol.Name 0)
name_declared = (0, (codes "t", refl))

plain : HasPlainNames scope
plain = record {
  nothing_given = refl;
  identifiers = (candidate_named Index 0 (omega arith), tt);
  declared_identifiers = (candidate_named Timestamp 0 (omega arith), tt);
  apart = one_place;
  no_symbols = no_symbol;
  declared_once = (refl, tt);
  builtin = λ b. refl;
}

pub readable : IsReadable scope Boolean term
readable =
    record {
      plain = plain;
      value = refl;
      sorted = refl;
      words = (tt, (name_declared, (name_declared, tt)));
      finds_bind = (tt, (tt, tt));
    }

pub few : HasFewNames scope term
few = omega arith

pub within : IsWithinLimits scope term
within = record { nodes = omega arith; depth = omega arith }
