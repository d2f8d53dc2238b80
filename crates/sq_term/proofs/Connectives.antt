-- A declared function is no connective, and the tests on the lists of a function's parts.
use Rattle.std.proofs.Common.{◌≡◌, ℕ, false, List, [], ◌∷◌, length, ◌==◌, refl, arith}
use Rattle.std.proofs.lemmas.Bool.Decides.{nat_tests}
use Rattle.sq_term.specs.declared.term.Idx.{Idx}
use Rattle.sq_term.specs.declared.term.Term.{Term}
use Rattle.sq_term.specs.View.{term_trees}
use Rattle.sq_term.specs.Symbols.{Kind, declared, IsDeclared}
use Rattle.sq_term.specs.Measure.{count_terms}
use Rattle.sq_term.specs.Pure.{is_connective, has_no_indices}
use Rattle.sq_term.proofs.Views.{tree_rules}

pub declared_is_no_connective : (f : Kind) (n : ℕ) → IsDeclared f → is_connective f n ≡ false
declared_is_no_connective (declared k) n h = refl
declared_is_no_connective _ n h = absurd h

pub count_terms-trees : (ts : List Term) → count_terms (term_trees ts) ≡ length ts
count_terms-trees [] = refl
count_terms-trees (t ∷ ts) = omega (arith, count_terms-trees ts)

pub has_no_indices-length : (is : List Idx) → has_no_indices is ≡ (length is == 0)
has_no_indices-length [] = refl
has_no_indices-length (i ∷ is) = grind (arith, nat_tests)

pub ruleset pure_rules = (tree_rules, count_terms-trees, has_no_indices-length)
