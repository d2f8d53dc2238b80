-- Calls go no deeper than there are declarations.
use Rattle.std.proofs.Common.{◌≡◌, ℕ, zero, suc, min, ◌<◌, ◌≤◌, List, [], Bool, true, false}
use Rattle.std.proofs.Common.{if◌then◌else◌, Option, Some, None, refl, ap, arith, slice_get}
use Rattle.std.specs.Prelude.{nat_lt}
use Rattle.std.proofs.lemmas.Bool.Decides.{nat_tests}
use Rattle.sq_ast.specs.ProcTree as p
use Rattle.sq_ast.specs.ProcTree.{ProcTree, ProcTrees}
use Rattle.sq_sym.specs.declared.symbol.Symbol.{Symbol}
use Rattle.sq_sym.specs.declared.symbol.Symbol.TheVariants as symbol
use Rattle.sq_sym.specs.Declarations.{found}
use Rattle.sq_elab.specs.Inlined.{ProcessTree, InlinedTree, unwritten, new}
use Rattle.sq_elab.specs.Inlined.{receive, send, branch, find, define, replicate, label, called}
use Rattle.sq_elab.specs.Inlined.{more, one_or_several, Callee, callee_at, declared_process, callee}
use Rattle.sq_elab.specs.Inlined.{replaced_call, replaced, all_replaced, inlined_within}
use Rattle.sq_elab.specs.Laws.{DeeperCallsChangeNothing}

abbrev IsBelow : ℕ → Option Callee → Type 0
IsBelow limit None = Unit {0}
IsBelow limit (Some c) = c.0 < limit

callee_at-below : (limit at : ℕ) (o : Option ProcessTree) → IsBelow limit (callee_at limit at o)
callee_at-below limit at None = tt
callee_at-below limit at (Some q) = by (nat_lt at limit) refl
  where
    by : (b : Bool) → nat_lt at limit ≡ b → IsBelow limit (if b then Some (at, q) else None)
    by true e = grind (arith, nat_tests)
    by false e = tt

-- a call names a declaration below the limit
callee-below : (ps : List ProcessTree) (limit : ℕ) (o : Option (ℕ × Symbol))
    → IsBelow limit (declared_process ps limit o)
callee-below ps limit None = tt
callee-below ps limit (Some (at, symbol.Process k)) = callee_at-below limit at (slice_get ps k)
callee-below ps limit (Some (at, symbol.Channel)) = tt
callee-below ps limit (Some (at, symbol.Name k)) = tt
callee-below ps limit (Some (at, symbol.Fun k)) = tt
callee-below ps limit (Some (at, symbol.System k)) = tt
callee-below ps limit (Some (at, symbol.Action s k)) = tt
callee-below ps limit (Some (at, symbol.Statement k)) = tt

-- bodies that agree below the limit
abbrev Agree : (ℕ → ProcTree → InlinedTree) → (ℕ → ProcTree → InlinedTree) → ℕ → Type 0
Agree f g limit = (l : ℕ) (q : ProcTree) → l < limit → f l q ≡ g l q

module _ (table : List (List ℕ × Symbol)) (ps : List ProcessTree)
    (f g : ℕ → ProcTree → InlinedTree) (limit : ℕ) (agree : Agree f g limit) where
  same-call : (x : List ℕ) (args : List (List ℕ)) (o : Option Callee) → IsBelow limit o
      → replaced_call table ps f x args o ≡ replaced_call table ps g x args o
  same-call x args None h = refl
  same-call x args (Some (at, q)) h =
      let below : at < limit = h in
      ap (called x args q.params) (agree (min at q.sentence) q.body (omega arith))

  same-callee : (x : List ℕ) (args : List (List ℕ))
      → replaced_call table ps f x args (callee table ps limit x)
      ≡ replaced_call table ps g x args (callee table ps limit x)
  same-callee x args =
      same-call x args (callee table ps limit x) (callee-below ps limit (found x table))

  mutual
    same-replaced : (q : ProcTree) → replaced table ps f limit q ≡ replaced table ps g limit q
    same-replaced p.null = refl
    same-replaced (p.new n q) = ap (new n) (same-replaced q)
    same-replaced (p.receive c x) = refl
    same-replaced (p.receive_then c x q) = ap (receive c x) (same-replaced q)
    same-replaced (p.send c m) = refl
    same-replaced (p.send_then c m q) = ap (send c m) (same-replaced q)
    same-replaced (p.branch a q) = ap (λ r. branch a r unwritten) (same-replaced q)
    same-replaced (p.branch_else a q r) =
        (λ i. branch a (same-replaced q i) (same-replaced r i))
    same-replaced (p.find ns a q) = ap (λ r. find ns a r unwritten) (same-replaced q)
    same-replaced (p.find_else ns a q r) =
        (λ i. find ns a (same-replaced q i) (same-replaced r i))
    same-replaced (p.define x u q) = ap (define x u) (same-replaced q)
    same-replaced (p.replicate j q) = ap (replicate j) (same-replaced q)
    same-replaced (p.label l q) = ap (label l) (same-replaced q)
    same-replaced (p.call x) = same-callee x []
    same-replaced (p.call_with x args) = same-callee x args
    same-replaced (p.parallel qs) = ap one_or_several (all-same qs)

    all-same : (qs : ProcTrees)
        → all_replaced table ps f limit qs ≡ all_replaced table ps g limit qs
    all-same p.none = refl
    all-same (p.more q qs) = (λ i. more (same-replaced q i) (all-same qs i))

enough_calls : (table : List (List ℕ × Symbol)) (ps : List ProcessTree) (n m limit : ℕ)
    (q : ProcTree) → limit ≤ n → limit ≤ m
    → inlined_within table ps n limit q ≡ inlined_within table ps m limit q
enough_calls table ps zero zero limit q a b = refl
enough_calls table ps zero (suc m) limit q a b =
    same-replaced table ps (λ l r. unwritten) (inlined_within table ps m) limit
    (λ l r h. absurd (omega arith)) q
enough_calls table ps (suc n) zero limit q a b =
    same-replaced table ps (inlined_within table ps n) (λ l r. unwritten) limit
    (λ l r h. absurd (omega arith)) q
enough_calls table ps (suc n) (suc m) limit q a b =
    same-replaced table ps (inlined_within table ps n) (inlined_within table ps m) limit
    (λ l r h. enough_calls table ps n m l r (omega arith) (omega arith)) q

pub deeper_calls_change_nothing : DeeperCallsChangeNothing
deeper_calls_change_nothing table ps n limit q h =
    enough_calls table ps n limit limit q h (omega arith)
