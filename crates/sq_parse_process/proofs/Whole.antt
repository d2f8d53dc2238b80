-- The laws of `parse_process`, and that no list of tokens has two trees.
use Rattle.std.proofs.Common.{◌≡◌, ℕ, zero, suc, ◌<◌, List, [], ◌++◌, length, ◌≤◌, sym, ap, ◌∙◌}
use Rattle.std.proofs.Common.{subst, arith, inl, inr}
use Rattle.std.specs.Prelude.{⊤}
use Rattle.std.proofs.lemmas.List.{append-nil}
use Rattle.sq_token.specs.Sign.{Sign}
use Rattle.sq_ast.specs.declared.formula.Form.{Form}
use Rattle.sq_ast.specs.declared.formula.Form.TheVariants.{Formula}
use Rattle.sq_ast.specs.Tree.{FormulaTree}
use Rattle.sq_ast.specs.Grammar.{rank, spelled, IsBuilt}
use Rattle.sq_ast.specs.Deep.{IsLongest, RunsDeep}
use Rattle.sq_ast.specs.ProcTree.{ProcTree}
use Rattle.sq_ast.specs.ProcGrammar.{process_spelled, IsProcess, IsProcessOf, IsProcessFront}
use Rattle.sq_ast.specs.ProcGrammar.{IsLongestProcess, ProcessRunsDeep}
use Rattle.sq_parse_term.specs.Parse.{Read, deep, none, got, parse}
use Rattle.sq_parse_term.proofs.Outcomes.{Tells, Finds, weaken}
use Rattle.sq_parse_term.proofs.Sound.{parse_tells}
use Rattle.sq_parse_term.proofs.Complete.{rank_bound, parse_finds}
use Rattle.sq_parse_term.proofs.Complete as formula
use Rattle.sq_parse_term.proofs.Within.{Within, parse_within}
use Rattle.sq_parse_term.proofs.Runs.{Only, IsDeep, longest_of, parse_only, parse_deep}
use Rattle.sq_parse_process.specs.Process.{process, formula_at, parse_process}
use Rattle.sq_parse_process.proofs.Reading.{all_only}
use Rattle.sq_parse_process.proofs.Finding.{Ahead, all_finds}
use Rattle.sq_parse_process.proofs.Deepness.{all_deep, all_shallow}

only_tells : {A : Type 0} (D : Type 0) (Q : A → List Sign → Type 0) (m : Read A) → Only D Q m
    → Tells Q m
only_tells D Q deep h = tt
only_tells D Q none h = h
only_tells D Q (got a q) h = h

and_only : {A : Type 0} (D : Type 0) (P Q : A → List Sign → Type 0) (m : Read A) → Only D P m
    → Tells Q m → Only D Q m
and_only D P Q deep h t = h
and_only D P Q none h t = t
and_only D P Q (got a q) h t = t

pub formula_finds : (d : ℕ) (f : FormulaTree) (rest : List Sign) → IsBuilt f
    → Finds (formula.Ahead 4 f rest) (parse d Formula (spelled f ++ rest))
formula_finds d f rest b = parse_finds d Formula f rest (rank_bound f) b

-- what is read of a form is the longest
pub form_only : (d : ℕ) (f : Form) (ts : List Sign) → Only (RunsDeep d f ts) (IsLongest f ts)
    (parse d f ts)
form_only d f ts = and_only (RunsDeep d f ts) (λ a q. ⊤) (IsLongest f ts) (parse d f ts)
    (parse_only d f ts)
    (longest_of f ts (parse d f ts) (parse_tells d f ts)
    (λ u v g. subst (λ z. Finds (formula.Ahead (rank f) u v) (parse d f z)) (sym g.split)
    (parse_finds d f u v g.form_is g.built)))

longest_process : (ts : List Sign) (m : Read ProcTree) → Tells (IsProcessFront ts) m
    → ((u : ProcTree) (v : List Sign) → IsProcessFront ts u v → Finds (Ahead u v) m)
    → Tells (IsLongestProcess ts) m
longest_process ts deep t g = tt
longest_process ts none t g = tt
longest_process ts (got a q) t g = record { front = t; longest = λ u v h. no_longer u v (g u v h) }
  where
    no_longer : (u : ProcTree) (v : List Sign) → Ahead u v a q → length q ≤ length v
    no_longer u v (inl e) = omega (arith, ap length e.1)
    no_longer u v (inr e) = omega arith

-- what is known of a parser of processes
pub record Laws (PD : List Sign → Type 0) (P : List Sign → Read ProcTree) : Type 0 where
  pub only : (ts : List Sign) → Only (PD ts) (IsLongestProcess ts) (P ts)
  pub finds : (a : ProcTree) (rest : List Sign) → IsProcess a
      → Finds (Ahead a rest) (P (process_spelled a ++ rest))
  pub deep : (ts : List Sign) → PD ts → IsDeep (P ts)

process_tells : (PD : List Sign → Type 0) (P : List Sign → Read ProcTree) → Laws PD P
    → (ts : List Sign) → Tells (IsProcessFront ts) (P ts)
process_tells PD P l ts = weaken ⊤ ⊤ (IsLongestProcess ts) (IsProcessFront ts) (P ts)
    (only_tells (PD ts) (IsLongestProcess ts) (P ts) (l.only ts)) (λ a q h. h.front)

pub laws : (d : ℕ) → Laws (ProcessRunsDeep d) (parse_process d)
unfolding parse_process
laws zero = record { only = λ ts. tt; finds = λ a rest h. tt; deep = λ ts h. tt }
laws (suc d) =
    let l = laws d in
    let P = parse_process d in
    let tells = process_tells (ProcessRunsDeep d) P l in
    let found = all_finds (formula_at d) P (formula_finds d) tells l.finds in
    let only = all_only (formula_at d) P (λ us. RunsDeep d Formula us) (ProcessRunsDeep d)
    (form_only d Formula) l.only in
    record {
      only = λ ts. and_only (ProcessRunsDeep (suc d) ts) (IsProcessFront ts) (IsLongestProcess ts)
          (process (formula_at d) P ts) (only ts)
          (longest_process ts (process (formula_at d) P ts)
          (only_tells (ProcessRunsDeep (suc d) ts) (IsProcessFront ts)
          (process (formula_at d) P ts) (only ts))
          (λ u v g. subst (λ z. Finds (Ahead u v) (process (formula_at d) P z)) (sym g.split)
          (found u v g.built)));
      finds = found;
      deep = all_deep (formula_at d) P (parse_tells d Formula) (formula_finds d) tells l.finds
          (λ us. RunsDeep d Formula us) (ProcessRunsDeep d) (parse_deep d Formula) l.deep;
    }

never_both : {A : Type 0} (ts : List Sign) (m : Read A) → Within ts m → IsDeep m → ⊥
never_both ts deep w d = w
never_both ts none w d = d
never_both ts (got a q) w d = d

pub form_shallow : (d : ℕ) (f : Form) (ts : List Sign) → length ts < d → RunsDeep d f ts → ⊥
form_shallow d f ts lt h = never_both ts (parse d f ts) (parse_within d f ts lt)
    (parse_deep d f ts h)

pub process_shallow : (d : ℕ) (ts : List Sign) → length ts < d → ProcessRunsDeep d ts → ⊥
process_shallow zero ts lt h = absurd (omega arith)
process_shallow (suc d) ts lt h = all_shallow (λ us. RunsDeep d Formula us) (ProcessRunsDeep d) d
    (form_shallow d Formula) (process_shallow d) ts lt h

both : (t u : ProcTree) (D : Type 0) (ts : List Sign) (m : Read ProcTree)
    → Only D (IsLongestProcess ts) m → (D → ⊥) → Finds (Ahead t []) m → Finds (Ahead u []) m → t ≡ u
both t u D ts deep o n f g = absurd (n o)
both t u D ts none o n f g = absurd f
both t u D ts (got a q) o n (inl f) (inl g) = sym f.0 ∙ g.0
both t u D ts (got a q) o n (inl f) (inr g) = absurd g.1
both t u D ts (got a q) o n (inr f) g = absurd f.1

pub one_process : (t u : ProcTree) (ts : List Sign) → IsProcessOf t ts → IsProcessOf u ts → t ≡ u
one_process t u ts h i =
    let d = suc (length ts) in
    let at : (v : ProcTree) → IsProcessOf v ts → Finds (Ahead v []) (parse_process d ts) = λ v j.
    subst (λ z. Finds (Ahead v []) (parse_process d z))
    (append-nil (process_spelled v) ∙ sym j.spelled_is) ((laws d).finds v [] j.built) in
    both t u (ProcessRunsDeep d ts) ts (parse_process d ts) ((laws d).only ts)
    (process_shallow d ts (omega arith)) (at t h) (at u i)
