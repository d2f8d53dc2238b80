-- A list of terms that was built one by one.
use Rattle.std.proofs.Common.{◌≡◌, List, [], ◌∷◌, map, ap, sym, ◌∙◌}
use Rattle.sq_term.specs.declared.term.Term.{Term}
use Rattle.sq_term.specs.Syntax.{TermTree, TermTrees, nil, cons}
use Rattle.sq_term.specs.View.{row, term_tree, term_trees}
use Rattle.sq_term.proofs.Views.{row-map}

module _ (f : TermTree → TermTree) (fs : TermTrees → TermTrees) (none : fs nil ≡ nil)
    (more : (t : TermTree) (ts : TermTrees) → fs (cons t ts) ≡ cons (f t) (fs ts)) where
  mapped : (xs : List Term) → row (map (λ t. f (term_tree t)) xs) ≡ fs (term_trees xs)
  mapped [] = sym none
  mapped (x ∷ xs) = ap (cons (f (term_tree x))) (mapped xs)
      ∙ sym (more (term_tree x) (term_trees xs))

  pub built : (xs out : List Term) → map term_tree out ≡ map (λ t. f (term_tree t)) xs
      → term_trees out ≡ fs (term_trees xs)
  built xs out e = sym (row-map out) ∙ (ap row e ∙ mapped xs)
