-- The test of equality of trees decides `≡`.
use Rattle.std.proofs.Common.{◌≡◌, Decides, ap, refl}
use Rattle.std.specs.Cmp.Lexicographic.{pointwise_decides}
use Rattle.std.proofs.lemmas.Bool.Decides.{Decides-eqb, Decides-and, Decides-like}
use Rattle.sq_base.specs.declared.sort.Sort.{Sort}
use Rattle.sq_base.specs.declared.sort.Sort.TheVariants.{Message, Boolean, Index, Timestamp}
use Rattle.sq_term.specs.declared.term.Macro.{Macro}
use Rattle.sq_term.specs.declared.term.Macro.TheVariants.{Input, Output, Cond, Exec, Frame}
use Rattle.sq_term.specs.declared.term.Term.{Term}
use Rattle.sq_term.specs.Syntax.{TermTree, name, fun, macro, schema, diff, le, ts_eq, idx_eq}
use Rattle.sq_term.specs.Syntax.{happens, all, some, find, TermTrees, nil, cons}
use Rattle.sq_term.specs.View.{term_tree}
use Rattle.sq_term.proofs.KindNumbers.{same_kind-decides}
use Rattle.sq_term.specs.TsEquality.{is_same_idx-decides, is_same_ts_tree-decides}
use Rattle.sq_term.specs.TreeEquality.{is_same_sort, is_same_macro, is_same_tree, are_same_trees}
use Rattle.sq_term.proofs.Inverse.{same_by_tree}

pub is_same_sort-decides : (a b : Sort) → Decides (is_same_sort a b) (a ≡ b)
is_same_sort-decides Message Message = (λ e. refl, λ e. refl)
is_same_sort-decides Boolean Boolean = (λ e. refl, λ e. refl)
is_same_sort-decides Index Index = (λ e. refl, λ e. refl)
is_same_sort-decides Timestamp Timestamp = (λ e. refl, λ e. refl)
is_same_sort-decides _ _ = (λ e. cc, λ e. cc)

pub is_same_macro-decides : (a b : Macro) → Decides (is_same_macro a b) (a ≡ b)
is_same_macro-decides Input Input = (λ e. refl, λ e. refl)
is_same_macro-decides Output Output = (λ e. refl, λ e. refl)
is_same_macro-decides Cond Cond = (λ e. refl, λ e. refl)
is_same_macro-decides Exec Exec = (λ e. refl, λ e. refl)
is_same_macro-decides Frame Frame = (λ e. refl, λ e. refl)
is_same_macro-decides _ _ = (λ e. cc, λ e. cc)

mutual
  pub is_same_tree-decides : (a b : TermTree) → Decides (is_same_tree a b) (a ≡ b)
  is_same_tree-decides (name m is) (name n js) =
      Decides-like _ (λ e. (λ i. name (e.0 i) (e.1 i))) (λ e. (cc, cc))
      (Decides-and _ _ (Decides-eqb m n) (pointwise_decides is_same_idx-decides is js))
  is_same_tree-decides (fun f is ts) (fun g js us) =
      Decides-like _ (λ e. (λ i. fun (e.0 i) (e.1.0 i) (e.1.1 i))) (λ e. (cc, (cc, cc)))
      (Decides-and _ _ (same_kind-decides f g)
      (Decides-and _ _ (pointwise_decides is_same_idx-decides is js)
      (are_same_trees-decide ts us)))
  is_same_tree-decides (macro m s) (macro n t) =
      Decides-like _ (λ e. (λ i. macro (e.0 i) (e.1 i))) (λ e. (cc, cc))
      (Decides-and _ _ (is_same_macro-decides m n) (is_same_ts_tree-decides s t))
  is_same_tree-decides (schema m) (schema n) =
      Decides-like _ (λ e. ap schema e) (λ e. cc) (Decides-eqb m n)
  is_same_tree-decides (diff a b) (diff c d) =
      Decides-like _ (λ e. (λ i. diff (e.0 i) (e.1 i))) (λ e. (cc, cc))
      (Decides-and _ _ (is_same_tree-decides a c) (is_same_tree-decides b d))
  is_same_tree-decides (le a b) (le c d) =
      Decides-like _ (λ e. (λ i. le (e.0 i) (e.1 i))) (λ e. (cc, cc))
      (Decides-and _ _ (is_same_ts_tree-decides a c) (is_same_ts_tree-decides b d))
  is_same_tree-decides (ts_eq a b) (ts_eq c d) =
      Decides-like _ (λ e. (λ i. ts_eq (e.0 i) (e.1 i))) (λ e. (cc, cc))
      (Decides-and _ _ (is_same_ts_tree-decides a c) (is_same_ts_tree-decides b d))
  is_same_tree-decides (idx_eq a b) (idx_eq c d) =
      Decides-like _ (λ e. (λ i. idx_eq (e.0 i) (e.1 i))) (λ e. (cc, cc))
      (Decides-and _ _ (is_same_idx-decides a c) (is_same_idx-decides b d))
  is_same_tree-decides (happens s) (happens t) =
      Decides-like _ (λ e. ap happens e) (λ e. cc) (is_same_ts_tree-decides s t)
  is_same_tree-decides (all r s) (all q t) =
      Decides-like _ (λ e. (λ i. all (e.0 i) (e.1 i))) (λ e. (cc, cc))
      (Decides-and _ _ (is_same_sort-decides r q) (is_same_tree-decides s t))
  is_same_tree-decides (some r s) (some q t) =
      Decides-like _ (λ e. (λ i. some (e.0 i) (e.1 i))) (λ e. (cc, cc))
      (Decides-and _ _ (is_same_sort-decides r q) (is_same_tree-decides s t))
  is_same_tree-decides (find m a b c) (find n d e f) =
      Decides-like _ (λ h. (λ i. find (h.0 i) (h.1.0 i) (h.1.1.0 i) (h.1.1.1 i)))
      (λ h. (cc, (cc, (cc, cc))))
      (Decides-and _ _ (Decides-eqb m n)
      (Decides-and _ _ (is_same_tree-decides a d)
      (Decides-and _ _ (is_same_tree-decides b e) (is_same_tree-decides c f))))
  is_same_tree-decides _ _ = (λ e. cc, λ e. cc)

  pub are_same_trees-decide : (a b : TermTrees) → Decides (are_same_trees a b) (a ≡ b)
  are_same_trees-decide nil nil = (λ e. refl, λ e. refl)
  are_same_trees-decide (cons t ts) (cons u us) =
      Decides-like _ (λ e. (λ i. cons (e.0 i) (e.1 i))) (λ e. (cc, cc))
      (Decides-and _ _ (is_same_tree-decides t u) (are_same_trees-decide ts us))
  are_same_trees-decide _ _ = (λ e. cc, λ e. cc)

-- on the program's terms
pub is_same_term-decides : (a b : Term) → Decides (is_same_tree (term_tree a) (term_tree b)) (a ≡ b)
is_same_term-decides a b =
    Decides-like _ (same_by_tree a b) (λ e. ap term_tree e)
    (is_same_tree-decides (term_tree a) (term_tree b))
