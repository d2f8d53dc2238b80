-- The loop over the parts of a parallel process, a turn at a time.
use Rattle.std.proofs.Common.{◌≡◌, ℕ, zero, suc, ◌-◌, ◌<◌, List, [], ◌∷◌, ◌++◌, map, refl, sym, ap}
use Rattle.std.proofs.Common.{◌∙◌, subst, arith}
use Rattle.sq_token.specs.declared.kind.Punctuation.TheVariants as p
use Rattle.sq_token.specs.Sign.{Sign, mark}
use Rattle.sq_ast.specs.declared.process.Proc.{Proc}
use Rattle.sq_ast.specs.Tree.{FormulaTree}
use Rattle.sq_ast.specs.ProcTree.{ProcTree, ProcTrees, more, trees, process_tree, process_trees}
use Rattle.sq_ast.specs.ProcTree as tree
use Rattle.sq_parse_term.specs.declared.stop.Stop.{Stop}
use Rattle.sq_parse_term.specs.Parse.{Read, deep, none, got, bind, eat}
use Rattle.sq_parse_term.specs.Reads.{Fails}
use Rattle.sq_parse_term.proofs.Steps.{fails_by}
use Rattle.sq_parse_process.specs.Process.{read_processes}

abbrev pub onto : List ProcTree → ProcTrees → ProcTrees
onto [] ys = ys
onto (x ∷ xs) ys = more x (onto xs ys)

-- the processes that were read, with those before them
abbrev pub with_processes : List Proc → Read ProcTrees → Read ProcTrees
with_processes ps m = bind m (λ ys q. got (onto (map process_tree ps) ys) q)

onto_push : (ps : List Proc) (a : Proc) (ys : ProcTrees) → onto (map process_tree (ps ++ a ∷ [])) ys
    ≡ onto (map process_tree ps) (more (process_tree a) ys)
onto_push [] a ys = refl
onto_push (f ∷ ps) a ys = ap (λ z. more (process_tree f) z) (onto_push ps a ys)

onto_none : (ts : List ProcTree) → onto ts tree.none ≡ trees ts
onto_none [] = refl
onto_none (t ∷ ts) = ap (λ z. more t z) (onto_none ts)

processes_push : (m : Read ProcTrees) (ps : List Proc) (a : Proc)
    → with_processes ps (bind m (λ xs q. got (more (process_tree a) xs) q))
    ≡ with_processes (ps ++ a ∷ []) m
processes_push deep ps a = refl
processes_push none ps a = refl
processes_push (got ys q) ps a = ap (λ z. got z q) (sym (onto_push ps a ys))

pub processes_nothing : (m : Read ProcTrees) → with_processes [] m ≡ m
processes_nothing deep = refl
processes_nothing none = refl
processes_nothing (got ys q) = refl

module _ (F : List Sign → Read FormulaTree) (P : List Sign → Read ProcTree) where
  process_none : (n : ℕ) (ts : List Sign) → P ts ≡ none → read_processes F P n ts ≡ none
  unfolding read_processes
  process_none zero ts e = refl
  process_none (suc n) ts e = rw e refl

  process_deep : (n : ℕ) (ts : List Sign) → 0 < n → P ts ≡ deep → read_processes F P n ts ≡ deep
  unfolding read_processes
  process_deep zero ts h e = absurd (omega arith)
  process_deep (suc n) ts h e = rw e refl

  process_last : (n : ℕ) (ts : List Sign) (x : ProcTree) (q : List Sign) → 0 < n → P ts ≡ got x q
      → eat (mark p.Bar) q ≡ none → read_processes F P n ts ≡ got (more x tree.none) q
  unfolding read_processes
  process_last zero ts x q h e f = absurd (omega arith)
  process_last (suc n) ts x q h e f = rw (e, f) refl

  process_next : (n : ℕ) (ts : List Sign) (x : ProcTree) (q u : List Sign) → 0 < n → P ts ≡ got x q
      → eat (mark p.Bar) q ≡ got (tt {0}) u → read_processes F P n ts
      ≡ bind (read_processes F P (n - 1) u) (λ xs v. got (more x xs) v)
  unfolding read_processes
  process_next zero ts x q u h e f = absurd (omega arith)
  process_next (suc n) ts x q u h e f = let less : suc n - 1 ≡ n = omega arith in
      rw (e, f, less) refl

  process_out : (ts : List Sign) → read_processes F P 0 ts ≡ none
  unfolding read_processes
  process_out ts = refl

  module _ (n : ℕ) (found : List Proc) (ts : List Sign) (m : Read ProcTrees)
      (before : with_processes found (read_processes F P n ts) ≡ m) where
    pub turn_last : 0 < n → (x : Proc) (q : List Sign) → P ts ≡ got (process_tree x) q
        → eat (mark p.Bar) q ≡ none → m ≡ got (process_trees (found ++ x ∷ [])) q
    turn_last h x q e f =
        sym before ∙ (ap (with_processes found) (process_last n ts (process_tree x) q h e f)
        ∙ ap (λ z. got z q) (sym (onto_push found x tree.none)
        ∙ onto_none (map process_tree (found ++ x ∷ []))))

    pub turn_next : 0 < n → (x : Proc) (q u : List Sign) → P ts ≡ got (process_tree x) q
        → eat (mark p.Bar) q ≡ got (tt {0}) u
        → with_processes (found ++ x ∷ []) (read_processes F P (n - 1) u) ≡ m
    turn_next h x q u e f = sym (processes_push (read_processes F P (n - 1) u) found x)
        ∙ (ap (with_processes found) (sym (process_next n ts (process_tree x) q u h e f)) ∙ before)

    pub turn_fails : (e : Stop) → 0 < n → Fails e (P ts) → Fails e m
    turn_fails e h f = subst (Fails e) before
        (fails_by e (read_processes F P n ts) (with_processes found (read_processes F P n ts))
        (λ g. ap (with_processes found) g) (λ g. ap (with_processes found) g)
        (fails_by e (P ts) (read_processes F P n ts) (process_none n ts) (process_deep n ts h) f))

    pub turn_out : n ≡ 0 → m ≡ none
    turn_out e = sym before
        ∙ ap (with_processes found) (ap (λ k. read_processes F P k ts) e ∙ process_out ts)
