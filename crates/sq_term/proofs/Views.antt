-- The equations of `ts_tree` and of `term_tree`.
use Rattle.std.proofs.lemmas.List.{length-map}
use Rattle.std.proofs.Common.{◌≡◌, ℕ, List, [], ◌∷◌, map, refl, ap, ◌∙◌, sym}
use Rattle.sq_term.specs.declared.term.Idx.{Idx}
use Rattle.sq_base.specs.declared.sort.Sort.{Sort}
use Rattle.sq_term.specs.declared.term.Macro.{Macro}
use Rattle.sq_term.specs.declared.term.Ts.{Ts}
use Rattle.sq_term.specs.declared.term.Ts.TheOpen.{Ts-F}
use Rattle.sq_term.specs.declared.term.Ts.TheFolds.{fold-roll-Ts}
use Rattle.sq_term.specs.declared.term.Ts.TheVariants as ts
use Rattle.sq_term.specs.declared.term.Term.{Term}
use Rattle.sq_term.specs.declared.term.Term.TheViews.{the_lemmas}
use Rattle.sq_term.specs.declared.term.Term.TheOpen.{Term-F}
use Rattle.sq_term.specs.declared.term.Term.TheFolds.{fold-roll-Term}
use Rattle.sq_term.specs.declared.term.Term.TheVariants as tm
use Rattle.sq_term.specs.Symbols.{kind_of}
use Rattle.sq_term.specs.Syntax.{TsTree, free, bound, init, pred, action, TermTree, name, fun}
use Rattle.sq_term.specs.Syntax.{macro, schema, diff, le, ts_eq, idx_eq, happens, all, some, find}
use Rattle.sq_term.specs.Syntax.{cons}
use Rattle.sq_term.specs.View.{ts_step, ts_tree, row, term_step, term_tree, term_trees}

pub ts_tree-Free : (n : ℕ) → ts_tree (ts.Free n) ≡ free n
unfolding ts_tree
ts_tree-Free n = ap ts_tree (sym (ts.rolls-Free n)) ∙ fold-roll-Ts TsTree ts_step (Ts-F.Free n)

pub ts_tree-Bound : (n : ℕ) → ts_tree (ts.Bound n) ≡ bound n
unfolding ts_tree
ts_tree-Bound n = ap ts_tree (sym (ts.rolls-Bound n)) ∙ fold-roll-Ts TsTree ts_step (Ts-F.Bound n)

pub ts_tree-Init : ts_tree ts.Init ≡ init
unfolding ts_tree
ts_tree-Init = ap ts_tree (sym ts.rolls-Init) ∙ fold-roll-Ts TsTree ts_step Ts-F.Init

pub ts_tree-Pred : (t : Ts) → ts_tree (ts.Pred t) ≡ pred (ts_tree t)
unfolding ts_tree
ts_tree-Pred t = ap ts_tree (sym (ts.rolls-Pred t)) ∙ fold-roll-Ts TsTree ts_step (Ts-F.Pred t)

pub ts_tree-Act : (a : ℕ) (is : List Idx) → ts_tree (ts.Act a is) ≡ action a is
unfolding ts_tree
ts_tree-Act a is =
    ap ts_tree (sym (ts.rolls-Act a is))
    ∙ fold-roll-Ts TsTree ts_step (Ts-F.Act a is)

pub row-map : (ts : List Term) → row (map term_tree ts) ≡ term_trees ts
row-map [] = refl
row-map (t ∷ ts) = ap (cons (term_tree t)) (row-map ts)

pub term_tree-Name : (n : ℕ) (is : List Idx) → term_tree (tm.Name n is) ≡ name n is
unfolding term_tree
term_tree-Name n is =
    ap term_tree (sym (tm.rolls-Name n is))
    ∙ fold-roll-Term TermTree term_step (Term-F.Name n is)

pub term_tree-Fun : (f : ℕ) (is : List Idx) (ts : List Term)
    → term_tree (tm.Fun f is ts) ≡ fun (kind_of f) is (term_trees ts)
unfolding term_tree
term_tree-Fun f is ts =
    ap term_tree (sym (tm.rolls-Fun f is ts))
    ∙ fold-roll-Term TermTree term_step (Term-F.Fun f is ts)
    ∙ ap (fun (kind_of f) is) (row-map ts)

pub term_tree-Macro : (m : Macro) (t : Ts) → term_tree (tm.Macro m t) ≡ macro m (ts_tree t)
unfolding term_tree
term_tree-Macro m t =
    ap term_tree (sym (tm.rolls-Macro m t))
    ∙ fold-roll-Term TermTree term_step (Term-F.Macro m t)

pub term_tree-Schema : (n : ℕ) → term_tree (tm.Schema n) ≡ schema n
unfolding term_tree
term_tree-Schema n =
    ap term_tree (sym (tm.rolls-Schema n))
    ∙ fold-roll-Term TermTree term_step (Term-F.Schema n)

pub term_tree-Diff : (a : Term) (b : Term)
    → term_tree (tm.Diff a b) ≡ diff (term_tree a) (term_tree b)
unfolding term_tree
term_tree-Diff a b =
    ap term_tree (sym (tm.rolls-Diff a b))
    ∙ fold-roll-Term TermTree term_step (Term-F.Diff a b)

pub term_tree-Le : (a : Ts) (b : Ts) → term_tree (tm.Le a b) ≡ le (ts_tree a) (ts_tree b)
unfolding term_tree
term_tree-Le a b =
    ap term_tree (sym (tm.rolls-Le a b))
    ∙ fold-roll-Term TermTree term_step (Term-F.Le a b)

pub term_tree-TsEq : (a : Ts) (b : Ts) → term_tree (tm.TsEq a b) ≡ ts_eq (ts_tree a) (ts_tree b)
unfolding term_tree
term_tree-TsEq a b =
    ap term_tree (sym (tm.rolls-TsEq a b))
    ∙ fold-roll-Term TermTree term_step (Term-F.TsEq a b)

pub term_tree-IdxEq : (a : Idx) (b : Idx) → term_tree (tm.IdxEq a b) ≡ idx_eq a b
unfolding term_tree
term_tree-IdxEq a b =
    ap term_tree (sym (tm.rolls-IdxEq a b))
    ∙ fold-roll-Term TermTree term_step (Term-F.IdxEq a b)

pub term_tree-Happens : (t : Ts) → term_tree (tm.Happens t) ≡ happens (ts_tree t)
unfolding term_tree
term_tree-Happens t =
    ap term_tree (sym (tm.rolls-Happens t))
    ∙ fold-roll-Term TermTree term_step (Term-F.Happens t)

pub term_tree-Forall : (s : Sort) (t : Term) → term_tree (tm.Forall s t) ≡ all s (term_tree t)
unfolding term_tree
term_tree-Forall s t =
    ap term_tree (sym (tm.rolls-Forall s t))
    ∙ fold-roll-Term TermTree term_step (Term-F.Forall s t)

pub term_tree-Exists : (s : Sort) (t : Term) → term_tree (tm.Exists s t) ≡ some s (term_tree t)
unfolding term_tree
term_tree-Exists s t =
    ap term_tree (sym (tm.rolls-Exists s t))
    ∙ fold-roll-Term TermTree term_step (Term-F.Exists s t)

pub term_tree-Find : (n : ℕ) (c : Term) (a : Term) (b : Term)
    → term_tree (tm.Find n c a b) ≡ find n (term_tree c) (term_tree a) (term_tree b)
unfolding term_tree
term_tree-Find n c a b =
    ap term_tree (sym (tm.rolls-Find n c a b))
    ∙ fold-roll-Term TermTree term_step (Term-F.Find n c a b)

pub ruleset tree_rules = (
  ts_tree-Free,
  ts_tree-Bound,
  ts_tree-Init,
  ts_tree-Pred,
  ts_tree-Act,
  term_tree-Name,
  term_tree-Fun,
  term_tree-Macro,
  term_tree-Schema,
  term_tree-Diff,
  term_tree-Le,
  term_tree-TsEq,
  term_tree-IdxEq,
  term_tree-Happens,
  term_tree-Forall,
  term_tree-Exists,
  term_tree-Find,
)

pub ruleset open_rules = (tree_rules, the_lemmas, length-map)
