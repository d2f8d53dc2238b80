-- `term_tree` loses nothing.
use Rattle.std.proofs.Common.{◌≡◌, List, [], ◌∷◌, map, refl, ap, sym, ◌∙◌, subst}
use Rattle.sq_term.specs.declared.term.Ts.{Ts, ind-Ts, map-Ts, roll-Ts}
use Rattle.sq_term.specs.declared.term.Ts.TheOpen.{Ts-F}
use Rattle.sq_term.specs.declared.term.Ts.TheVariants as ts
use Rattle.sq_term.specs.declared.term.Term.{Term, ind-Term, map-Term, roll-Term}
use Rattle.sq_term.specs.declared.term.Term.TheOpen.{Term-F}
use Rattle.sq_term.specs.declared.term.Term.TheVariants as tm
use Rattle.sq_term.specs.Symbols.{function_number}
use Rattle.sq_term.specs.Syntax.{TsTree, free, bound, init, pred, action, TermTree, name, fun}
use Rattle.sq_term.specs.Syntax.{macro, schema, diff, le, ts_eq, idx_eq, happens, all, some, find}
use Rattle.sq_term.specs.Syntax.{TermTrees, nil, cons}
use Rattle.sq_term.specs.View.{ts_tree, term_tree, term_trees}
use Rattle.sq_term.proofs.KindNumbers.{kind_of-function_number, function_number-kind_of}
use Rattle.sq_term.proofs.Views.{ts_tree-Free, ts_tree-Bound, ts_tree-Init, ts_tree-Pred}
use Rattle.sq_term.proofs.Views.{ts_tree-Act, term_tree-Name, term_tree-Fun, term_tree-Macro}
use Rattle.sq_term.proofs.Views.{term_tree-Schema, term_tree-Diff, term_tree-Le, term_tree-TsEq}
use Rattle.sq_term.proofs.Views.{term_tree-IdxEq, term_tree-Happens, term_tree-Forall}
use Rattle.sq_term.proofs.Views.{term_tree-Exists, term_tree-Find}

abbrev pub of_ts_tree : TsTree → Ts
of_ts_tree (free n) = ts.Free n
of_ts_tree (bound n) = ts.Bound n
of_ts_tree init = ts.Init
of_ts_tree (pred t) = ts.Pred (of_ts_tree t)
of_ts_tree (action a is) = ts.Act a is

abbrev mutual
  pub of_term_tree : TermTree → Term
  of_term_tree (name n is) = tm.Name n is
  of_term_tree (fun f is ts) = tm.Fun (function_number f) is (of_term_trees ts)
  of_term_tree (macro m t) = tm.Macro m (of_ts_tree t)
  of_term_tree (schema n) = tm.Schema n
  of_term_tree (diff a b) = tm.Diff (of_term_tree a) (of_term_tree b)
  of_term_tree (le a b) = tm.Le (of_ts_tree a) (of_ts_tree b)
  of_term_tree (ts_eq a b) = tm.TsEq (of_ts_tree a) (of_ts_tree b)
  of_term_tree (idx_eq a b) = tm.IdxEq a b
  of_term_tree (happens t) = tm.Happens (of_ts_tree t)
  of_term_tree (all s t) = tm.Forall s (of_term_tree t)
  of_term_tree (some s t) = tm.Exists s (of_term_tree t)
  of_term_tree (find n c a b) = tm.Find n (of_term_tree c) (of_term_tree a) (of_term_tree b)

  pub of_term_trees : TermTrees → List Term
  of_term_trees nil = []
  of_term_trees (cons t ts) = of_term_tree t ∷ of_term_trees ts

abbrev Tied : Type 0
Tied = (t : Ts) × (of_ts_tree (ts_tree t) ≡ t)

tied_layer : (y : Ts-F Tied) → of_ts_tree (ts_tree (roll-Ts (map-Ts Tied Ts (λ e. e.0) y)))
    ≡ roll-Ts (map-Ts Tied Ts (λ e. e.0) y)
tied_layer (Ts-F.Free n) = rw (ts.rolls-Free, ts_tree-Free)
tied_layer (Ts-F.Bound n) = rw (ts.rolls-Bound, ts_tree-Bound)
tied_layer Ts-F.Init = rw (ts.rolls-Init, ts_tree-Init)
tied_layer (Ts-F.Pred t) = rw (ts.rolls-Pred, ts_tree-Pred) (ap ts.Pred t.1)
tied_layer (Ts-F.Act a is) = rw (ts.rolls-Act, ts_tree-Act)

pub of_ts_tree_of : (t : Ts) → of_ts_tree (ts_tree t) ≡ t
of_ts_tree_of =
    ind-Ts (λ t. of_ts_tree (ts_tree t) ≡ t)
    (λ x y is. subst (λ z. of_ts_tree (ts_tree (roll-Ts z)) ≡ roll-Ts z) is (tied_layer y))

abbrev Held : Type 0
Held = (t : Term) × (of_term_tree (term_tree t) ≡ t)

held_all : (es : List Held) → of_term_trees (term_trees (map (λ e. e.0) es)) ≡ map (λ e. e.0) es
held_all [] = refl
held_all (e ∷ es) = let x = e.1 in let y = held_all es in cc

layer : (y : Term-F Held) → of_term_tree (term_tree (roll-Term (map-Term Held Term (λ e. e.0) y)))
    ≡ roll-Term (map-Term Held Term (λ e. e.0) y)
layer (Term-F.Name n is) = rw (tm.rolls-Name, term_tree-Name)
layer (Term-F.Fun f is ts) =
    let n = function_number-kind_of f in let x = held_all ts in
    rw (tm.rolls-Fun, term_tree-Fun) (λ i. tm.Fun (n i) is (x i))
layer (Term-F.Macro m t) = rw (tm.rolls-Macro, term_tree-Macro) (ap (tm.Macro m) (of_ts_tree_of t))
layer (Term-F.Schema n) = rw (tm.rolls-Schema, term_tree-Schema)
layer (Term-F.Diff a b) = let x = a.1 in let y =
    b.1 in rw (tm.rolls-Diff, term_tree-Diff) (λ i. tm.Diff (x i) (y i))
layer (Term-F.Le a b) = let x = of_ts_tree_of a in let y =
    of_ts_tree_of b in rw (tm.rolls-Le, term_tree-Le) (λ i. tm.Le (x i) (y i))
layer (Term-F.TsEq a b) = let x = of_ts_tree_of a in let y =
    of_ts_tree_of b in rw (tm.rolls-TsEq, term_tree-TsEq) (λ i. tm.TsEq (x i) (y i))
layer (Term-F.IdxEq a b) = rw (tm.rolls-IdxEq, term_tree-IdxEq)
layer (Term-F.Happens t) =
    rw (tm.rolls-Happens, term_tree-Happens) (ap tm.Happens (of_ts_tree_of t))
layer (Term-F.Forall s t) = rw (tm.rolls-Forall, term_tree-Forall) (ap (tm.Forall s) t.1)
layer (Term-F.Exists s t) = rw (tm.rolls-Exists, term_tree-Exists) (ap (tm.Exists s) t.1)
layer (Term-F.Find n c a b) =
    rw (tm.rolls-Find, term_tree-Find) (λ i. tm.Find n (c.1 i) (a.1 i) (b.1 i))

pub of_term_tree_of : (t : Term) → of_term_tree (term_tree t) ≡ t
of_term_tree_of =
    ind-Term (λ t. of_term_tree (term_tree t) ≡ t)
    (λ x y is. subst (λ z. of_term_tree (term_tree (roll-Term z)) ≡ roll-Term z) is (layer y))

pub ts_tree_of : (t : TsTree) → ts_tree (of_ts_tree t) ≡ t
ts_tree_of (free n) = ts_tree-Free n
ts_tree_of (bound n) = ts_tree-Bound n
ts_tree_of init = ts_tree-Init
ts_tree_of (pred t) = ts_tree-Pred (of_ts_tree t) ∙ ap pred (ts_tree_of t)
ts_tree_of (action a is) = ts_tree-Act a is

mutual
  pub term_tree_of : (t : TermTree) → term_tree (of_term_tree t) ≡ t
  term_tree_of (name n is) = term_tree-Name n is
  term_tree_of (fun f is ts) =
      term_tree-Fun (function_number f) is (of_term_trees ts)
      ∙ (λ i. fun (kind_of-function_number f i) is (term_trees_of ts i))
  term_tree_of (macro m t) = term_tree-Macro m (of_ts_tree t) ∙ ap (macro m) (ts_tree_of t)
  term_tree_of (schema n) = term_tree-Schema n
  term_tree_of (diff a b) = term_tree-Diff (of_term_tree a) (of_term_tree b)
      ∙ (λ i. diff (term_tree_of a i) (term_tree_of b i))
  term_tree_of (le a b) = term_tree-Le (of_ts_tree a) (of_ts_tree b)
      ∙ (λ i. le (ts_tree_of a i) (ts_tree_of b i))
  term_tree_of (ts_eq a b) = term_tree-TsEq (of_ts_tree a) (of_ts_tree b)
      ∙ (λ i. ts_eq (ts_tree_of a i) (ts_tree_of b i))
  term_tree_of (idx_eq a b) = term_tree-IdxEq a b
  term_tree_of (happens t) = term_tree-Happens (of_ts_tree t) ∙ ap happens (ts_tree_of t)
  term_tree_of (all s t) = term_tree-Forall s (of_term_tree t) ∙ ap (all s) (term_tree_of t)
  term_tree_of (some s t) = term_tree-Exists s (of_term_tree t) ∙ ap (some s) (term_tree_of t)
  term_tree_of (find n c a b) = term_tree-Find n (of_term_tree c) (of_term_tree a) (of_term_tree b)
      ∙ (λ i. find n (term_tree_of c i) (term_tree_of a i) (term_tree_of b i))

  pub term_trees_of : (ts : TermTrees) → term_trees (of_term_trees ts) ≡ ts
  term_trees_of nil = refl
  term_trees_of (cons t ts) = λ i. cons (term_tree_of t i) (term_trees_of ts i)

-- two terms are equal where their term_trees are
pub same_by_tree : (a b : Term) → term_tree a ≡ term_tree b → a ≡ b
same_by_tree a b e = sym (of_term_tree_of a) ∙ ap of_term_tree e ∙ of_term_tree_of b
