-- A term is closed under k binders exactly where its loose variables reach no further.
use Rattle.std.proofs.Common.{◌≡◌, ◌≤◌, ◌+◌, ◌-◌, ◌&&◌, ℕ, suc, max, Bool, true, nat_lt, nat_le}
use Rattle.std.proofs.Common.{List, [], ◌∷◌, refl, arith, Decides}
use Rattle.std.proofs.lemmas.Bool.Decides.{nat_tests, same_from_decides, Decides-ltb, Decides-and}
use Rattle.std.proofs.lemmas.Bool.Decides.{Decides-like}
use Rattle.sq_term.specs.declared.term.Idx.{Idx}
use Rattle.sq_term.specs.declared.term.Idx.TheVariants as idx
use Rattle.sq_term.specs.Macros.{macro_indices}
use Rattle.sq_term.specs.Syntax.{TsTree, free, bound, init, pred, action, TermTree, name, fun}
use Rattle.sq_term.specs.Syntax.{macro, schema, diff, le, ts_eq, idx_eq, happens, all, some, find}
use Rattle.sq_term.specs.Syntax.{TermTrees, nil, cons}
use Rattle.sq_term.specs.Closed.{idx_closed, indices_closed, ts_closed, is_closed, are_closed}
use Rattle.sq_term.specs.Closed.{idx_loose, indices_loose, ts_loose, loose, all_loose}

always : (p : Type 0) → p → Decides true p
always p x = (λ e. x, λ h. refl)

below : (j k : ℕ) → Decides (nat_lt j k) (j + 1 ≤ k)
below j k = Decides-like _ (λ h. omega arith) (λ h. omega arith) (Decides-ltb j k)

-- two tests, and a maximum within two limits
both : {b c : Bool} (m n k : ℕ) → Decides b (m ≤ k) → Decides c (n ≤ k)
    → Decides (b && c) (max m n ≤ k)
both m n k d e =
    Decides-like _ (λ p. let x = p.0 in let y = p.1 in omega arith)
    (λ h. (omega arith, omega arith)) (Decides-and _ _ d e)

moved : {b : Bool} (m n k : ℕ) → Decides b (m ≤ k + n) → Decides b (m - n ≤ k)
moved m n k d = Decides-like _ (λ h. omega arith) (λ h. omega arith) d

inner : {b : Bool} (m k : ℕ) → Decides b (m ≤ suc k) → Decides b (m - 1 ≤ k)
inner m k d = Decides-like _ (λ h. omega arith) (λ h. omega arith) d

pub idx_closed-loose : (k : ℕ) (i : Idx) → Decides (idx_closed k i) (idx_loose i ≤ k)
idx_closed-loose k (idx.Free n) = always _ (omega arith)
idx_closed-loose k (idx.Bound j) = below j k

pub indices_closed-loose : (k : ℕ) (is : List Idx)
    → Decides (indices_closed k is) (indices_loose is ≤ k)
indices_closed-loose k [] = always _ (omega arith)
indices_closed-loose k (i ∷ is) = both _ _ k (idx_closed-loose k i) (indices_closed-loose k is)

pub ts_closed-loose : (k : ℕ) (t : TsTree) → Decides (ts_closed k t) (ts_loose t ≤ k)
ts_closed-loose k (free n) = always _ (omega arith)
ts_closed-loose k (bound j) = below j k
ts_closed-loose k init = always _ (omega arith)
ts_closed-loose k (pred t) = ts_closed-loose k t
ts_closed-loose k (action a is) = indices_closed-loose k is

mutual
  pub is_closed-loose : (k : ℕ) (t : TermTree) → Decides (is_closed k t) (loose t ≤ k)
  is_closed-loose k (name n is) = indices_closed-loose k is
  is_closed-loose k (fun f is ts) = both _ _ k (indices_closed-loose k is) (are_closed-loose k ts)
  is_closed-loose k (macro m t) =
      both _ _ k (indices_closed-loose k (macro_indices m)) (ts_closed-loose k t)
  is_closed-loose k (schema n) = always _ (omega arith)
  is_closed-loose k (diff a b) = both _ _ k (is_closed-loose k a) (is_closed-loose k b)
  is_closed-loose k (le a b) = both _ _ k (ts_closed-loose k a) (ts_closed-loose k b)
  is_closed-loose k (ts_eq a b) = both _ _ k (ts_closed-loose k a) (ts_closed-loose k b)
  is_closed-loose k (idx_eq a b) = both _ _ k (idx_closed-loose k a) (idx_closed-loose k b)
  is_closed-loose k (happens t) = ts_closed-loose k t
  is_closed-loose k (all s t) = inner _ k (is_closed-loose (suc k) t)
  is_closed-loose k (some s t) = inner _ k (is_closed-loose (suc k) t)
  is_closed-loose k (find n c a b) =
      Decides-like _ (λ h. omega arith) (λ h. omega arith)
      (both _ _ k (moved _ n k (is_closed-loose (k + n) c))
      (both _ _ k (moved _ n k (is_closed-loose (k + n) a)) (is_closed-loose k b)))

  pub are_closed-loose : (k : ℕ) (ts : TermTrees) → Decides (are_closed k ts) (all_loose ts ≤ k)
  are_closed-loose k nil = always _ (omega arith)
  are_closed-loose k (cons t ts) = both _ _ k (is_closed-loose k t) (are_closed-loose k ts)

within : (m k : ℕ) → Decides (nat_le m k) (m ≤ k)
within m k = (λ e. grind (arith, nat_tests), λ h. grind (arith, nat_tests))

-- the test on the loose variables
pub ts_closed-test : (k : ℕ) (t : TsTree) → nat_le (ts_loose t) k ≡ ts_closed k t
ts_closed-test k t = same_from_decides _ _ (within (ts_loose t) k) (ts_closed-loose k t)

pub is_closed-test : (k : ℕ) (t : TermTree) → nat_le (loose t) k ≡ is_closed k t
is_closed-test k t = same_from_decides _ _ (within (loose t) k) (is_closed-loose k t)
