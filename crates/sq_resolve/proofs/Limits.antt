-- Measures of terms made of measured parts.
use Rattle.std.proofs.Common.{◌≡◌, ℕ, ◌+◌, ◌≤◌, ◌<◌, List, [], ◌∷◌, ◌++◌, map, max, length, refl}
use Rattle.std.proofs.Common.{ap, sym, ◌∙◌, arith}
use Rattle.sq_ast.specs.declared.formula.Quantifier.{Quantifier}
use Rattle.sq_ast.specs.declared.formula.Quantifier.TheVariants.{Forall, Exists}
use Rattle.sq_base.specs.declared.sort.Sort.{Sort}
use Rattle.sq_term.specs.declared.term.Idx.{Idx}
use Rattle.sq_term.specs.declared.term.Term.{Term}
use Rattle.sq_term.specs.Measure.{size, depth, sizes, depths, indices_depth}
use Rattle.sq_term.specs.Syntax as t
use Rattle.sq_term.specs.Syntax.{TermTree, TermTrees, nil, cons}
use Rattle.sq_term.specs.View.{term_tree, term_trees, row}
use Rattle.sq_term.proofs.Views.{row-map}
use Rattle.sq_resolve.specs.declared.sized.SizedTerm.{SizedTerm}
use Rattle.sq_resolve.specs.declared.sized.SizedRow.{SizedRow}
use Rattle.sq_resolve.specs.Limits.{most_formula_nodes, most_formula_depth}
use Rattle.sq_resolve.specs.Built.{Measures, MeasuresRow}
use Rattle.sq_resolve.specs.Resolved.{quantifier}
use Rattle.sq_resolve.proofs.Rows.{sizes-push, depths-push}

-- a measure past the limits
abbrev pub Passes : ℕ → ℕ → Type 0
Passes n d = n ≤ most_formula_nodes → most_formula_depth < d

pub map-push : (xs : List Term) (x : Term)
    → map term_tree (xs ++ x ∷ []) ≡ map term_tree xs ++ term_tree x ∷ []
map-push [] x = refl
map-push (y ∷ xs) x = ap (λ ys. term_tree y ∷ ys) (map-push xs x)

pub quantifier_size : (q : Quantifier) (s : Sort) (x : TermTree)
    → size (quantifier q s x) ≡ size x + 1
quantifier_size Forall s x = omega arith
quantifier_size Exists s x = omega arith

pub quantifier_depth : (q : Quantifier) (s : Sort) (x : TermTree)
    → depth (quantifier q s x) ≡ depth x + 1
quantifier_depth Forall s x = omega arith
quantifier_depth Exists s x = omega arith

-- what holds a part past the limits passes them
pub first_passes : (ts : List TermTree) (x : TermTree) → Passes (sizes (row ts)) (depths (row ts))
    → Passes (sizes (row (ts ++ x ∷ []))) (depths (row (ts ++ x ∷ [])))
first_passes ts x p = λ n. let small : sizes (row ts) ≤ most_formula_nodes =
    omega (arith, sizes-push ts x, n) in let deep : most_formula_depth < depths (row ts) =
    p small in omega (arith, depths-push ts x, deep)

pub last_passes : (ts : List TermTree) (x : TermTree) → Passes (size x) (depth x)
    → Passes (sizes (row (ts ++ x ∷ []))) (depths (row (ts ++ x ∷ [])))
last_passes ts x p = λ n. let small : size x ≤ most_formula_nodes =
    omega (arith, sizes-push ts x, n) in let deep : most_formula_depth < depth x =
    p small in omega (arith, depths-push ts x, deep)

pub left_passes : (x y : TermTree) → Passes (size x) (depth x)
    → Passes (size (t.diff x y)) (depth (t.diff x y))
left_passes x y p = λ n. let small : size x ≤ most_formula_nodes =
    omega (arith, n) in let deep : most_formula_depth < depth x = p small in omega (arith, deep)

pub right_passes : (x y : TermTree) → Passes (size y) (depth y)
    → Passes (size (t.diff x y)) (depth (t.diff x y))
right_passes x y p = λ n. let small : size y ≤ most_formula_nodes =
    omega (arith, n) in let deep : most_formula_depth < depth y = p small in omega (arith, deep)

module _ (c : ℕ) (x y z : TermTree) where
  pub test_passes : Passes (size x) (depth x)
      → Passes (size (t.find c x y z)) (depth (t.find c x y z))
  test_passes p = λ n. let small : size x ≤ most_formula_nodes = omega (arith, n) in
      let deep : most_formula_depth < depth x =
      p small in omega (arith, deep)

  pub then_passes : Passes (size y) (depth y)
      → Passes (size (t.find c x y z)) (depth (t.find c x y z))
  then_passes p = λ n. let small : size y ≤ most_formula_nodes = omega (arith, n) in
      let deep : most_formula_depth < depth y =
      p small in omega (arith, deep)

  pub other_passes : Passes (size z) (depth z)
      → Passes (size (t.find c x y z)) (depth (t.find c x y z))
  other_passes p = λ n. let small : size z ≤ most_formula_nodes = omega (arith, n) in
      let deep : most_formula_depth < depth z =
      p small in omega (arith, deep)
