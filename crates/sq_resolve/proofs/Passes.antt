-- The walk over nodes one after another.
use Rattle.std.proofs.Common.{◌≡◌, ◌<◌, ◌+◌, ℕ, suc, List, [], ◌∷◌, ◌++◌, Option, Some, None}
use Rattle.std.proofs.Common.{length, drop, get_or, refl, sym, ap, ◌∙◌, arith}
use Rattle.std.specs.Prelude.{Result, Ok, Err}
use Rattle.sq_ast.specs.declared.formula.Formula.{Formula}
use Rattle.sq_ast.specs.Tree.{FormulaTree}
use Rattle.sq_ast.specs.View.{formula_tree, formula_trees}
use Rattle.sq_resolve.specs.declared.stopped.Stopped.{Stopped}
use Rattle.sq_resolve.specs.Stops.{nodes, all_nodes, stop_at, past, passed}
use Rattle.sq_resolve.proofs.Rows.{drop_next}

abbrev pub then_passed : Result ℕ Stopped → List (FormulaTree × ℕ) → Result ℕ Stopped
then_passed (Ok k) ns = passed k ns
then_passed (Err s) ns = Err s

past_then : (o : Option Stopped) (r : Result ℕ Stopped) (ns : List (FormulaTree × ℕ))
    → past o (then_passed r ns) ≡ then_passed (past o r) ns
past_then None r ns = refl
past_then (Some s) r ns = refl

pub passed_append : (k : ℕ) (ms ns : List (FormulaTree × ℕ))
    → passed k (ms ++ ns) ≡ then_passed (passed k ms) ns
passed_append k [] ns = refl
passed_append k (m ∷ ms) ns =
    ap (past (stop_at k m.0 m.1)) (passed_append (suc k) ms ns)
    ∙ past_then (stop_at k m.0 m.1) (passed (suc k) ms) ns

pub passed_fault : (k : ℕ) (ms ns : List (FormulaTree × ℕ)) (s : Stopped) → Err s ≡ passed k ms
    → Err s ≡ passed k (ms ++ ns)
passed_fault k ms ns s e = ap (λ r. then_passed r ns) e ∙ sym (passed_append k ms ns)

pub passed_next : (k j : ℕ) (ms ns : List (FormulaTree × ℕ)) (r : Result ℕ Stopped)
    → Ok j ≡ passed k ms → r ≡ passed j ns → r ≡ passed k (ms ++ ns)
passed_next k j ms ns r e d = d ∙ (ap (λ r. then_passed r ns) e ∙ sym (passed_append k ms ns))

-- ---- the arguments from a place on

module _ (before deep : ℕ) (xs : List Formula) (at k : ℕ) (x d : Formula) where
  left : at < length xs → x ≡ get_or xs at d
      → all_nodes deep (formula_trees (drop at xs))
      ≡ nodes deep (formula_tree x) ++ all_nodes deep (formula_trees (drop (at + 1) xs))
  left b e =
      let next : suc at ≡ at + 1 = omega arith in
      ap (λ (l : List Formula). all_nodes deep (formula_trees l))
      (drop_next xs at x d b e ∙ ap (λ (n : ℕ). x ∷ drop n xs) next)

  pub among_fault : (s : Stopped) → at < length xs → x ≡ get_or xs at d
      → passed before (all_nodes deep (formula_trees xs))
      ≡ passed k (all_nodes deep (formula_trees (drop at xs)))
      → Err s ≡ passed k (nodes deep (formula_tree x))
      → Err s ≡ passed before (all_nodes deep (formula_trees xs))
  among_fault s b e i h =
      passed_fault k (nodes deep (formula_tree x))
      (all_nodes deep (formula_trees (drop (at + 1) xs))) s h
      ∙ (ap (passed k) (sym (left b e)) ∙ sym i)

  pub among_next : (j : ℕ) → at < length xs → x ≡ get_or xs at d
      → passed before (all_nodes deep (formula_trees xs))
      ≡ passed k (all_nodes deep (formula_trees (drop at xs)))
      → Ok j ≡ passed k (nodes deep (formula_tree x))
      → passed before (all_nodes deep (formula_trees xs))
      ≡ passed j (all_nodes deep (formula_trees (drop (at + 1) xs)))
  among_next j b e i h =
      let more = all_nodes deep (formula_trees (drop (at + 1) xs)) in
      i ∙ (ap (passed k) (left b e)
      ∙ sym (passed_next k j (nodes deep (formula_tree x)) more (passed j more) h refl))
