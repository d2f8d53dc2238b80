-- Rows of terms, and the arguments of a function.
use Rattle.std.proofs.Common.{◌≡◌, ℕ, zero, suc, ◌+◌, ◌≤◌, List, [], ◌∷◌, ◌++◌, take, drop, length}
use Rattle.std.proofs.Common.{min, max, refl, ap, sym, ◌∙◌, arith, ◌<◌, get_or}
use Rattle.std.specs.Prelude.{Ok, Err}
use Rattle.sq_base.specs.declared.sort.Sort.TheVariants.{Message}
use Rattle.sq_ast.specs.declared.formula.Formula.{Formula}
use Rattle.sq_ast.specs.Deep.{height, heights}
use Rattle.sq_ast.specs.View.{formula_tree, formula_trees}
use Rattle.sq_term.specs.declared.term.Idx.{Idx}
use Rattle.sq_term.specs.Measure.{size, depth, sizes, depths}
use Rattle.sq_term.specs.Syntax.{TermTree, TermTrees, nil, cons}
use Rattle.sq_term.specs.View.{row}
use Rattle.sq_resolve.specs.Scopes.{Context, Variable}
use Rattle.sq_resolve.specs.Resolved.{Found, mapped, both, index_of, indices_of, term_of, terms_of}
use Rattle.sq_resolve.specs.Resolved.{arguments_of, count_trees}

-- terms in front of others
abbrev pub prepend : List TermTree → TermTrees → TermTrees
prepend [] ts = ts
prepend (x ∷ xs) ts = cons x (prepend xs ts)

pub prepend-push : (xs : List TermTree) (x : TermTree) (ts : TermTrees)
    → prepend (xs ++ x ∷ []) ts ≡ prepend xs (cons x ts)
prepend-push [] x ts = refl
prepend-push (y ∷ xs) x ts = ap (cons y) (prepend-push xs x ts)

pub prepend-nil : (xs : List TermTree) → prepend xs nil ≡ row xs
prepend-nil [] = refl
prepend-nil (x ∷ xs) = ap (cons x) (prepend-nil xs)

pub sizes-push : (xs : List TermTree) (x : TermTree)
    → sizes (row (xs ++ x ∷ [])) ≡ sizes (row xs) + size x
sizes-push [] x = omega arith
sizes-push (y ∷ xs) x = omega (arith, sizes-push xs x)

pub depths-push : (xs : List TermTree) (x : TermTree)
    → depths (row (xs ++ x ∷ [])) ≡ max (depths (row xs)) (depth x)
depths-push [] x = omega arith
depths-push (y ∷ xs) x = omega (arith, depths-push xs x)

pub count_formula_trees : (xs : List Formula) → count_trees (formula_trees xs) ≡ length xs
count_formula_trees [] = refl
count_formula_trees (x ∷ xs) = let e : length xs + 1 ≡ suc (length xs) =
    omega arith in ap (λ n. n + 1) (count_formula_trees xs) ∙ e

abbrev beside : List Idx → TermTrees → List Idx × TermTrees
beside is ts = (is, ts)

beside_first : (c : Context) (bs : List Variable) (m : Found Idx) (f : Found (List Idx))
    (s : Found TermTrees)
    → both (λ j r. (j ∷ r.0, r.1)) m (both beside f s) ≡ both beside (both (λ i is. i ∷ is) m f) s
beside_first c bs (Ok i) (Ok is) (Ok ts) = refl
beside_first c bs (Ok i) (Ok is) (Err e) = refl
beside_first c bs (Ok i) (Err e) s = refl
beside_first c bs (Err e) f s = refl

mapped_beside : (m : Found TermTrees) → mapped (λ ts. ([], ts)) m ≡ both beside (Ok []) m
mapped_beside (Ok ts) = refl
mapped_beside (Err e) = refl

-- the arguments of a function are its indices, and then its messages
pub arguments_split : (c : Context) (bs : List Variable) (i : ℕ) (xs : List Formula)
    → arguments_of c bs i (formula_trees xs)
    ≡ both beside (indices_of c bs (formula_trees (take (min (length xs) i) xs)))
    (terms_of c bs (formula_trees (drop (min (length xs) i) xs)))
arguments_split c bs zero [] = refl
arguments_split c bs (suc i) [] = let e : min 0 (suc i) ≡ 0 = omega arith in rw e refl
arguments_split c bs zero (x ∷ xs) = let e : min (suc (length xs)) 0 ≡ 0 =
    omega arith in
    rw e (mapped_beside
    (both cons (term_of c bs Message (formula_tree x)) (terms_of c bs (formula_trees xs))))
arguments_split c bs (suc i) (x ∷ xs) =
    let e : min (suc (length xs)) (suc i) ≡ suc (min (length xs) i) = omega arith in
    rw e (ap (λ r. both (λ j s. (j ∷ s.0, s.1)) (index_of c bs (formula_tree x)) r)
    (arguments_split c bs i xs)
    ∙ beside_first c bs (index_of c bs (formula_tree x))
    (indices_of c bs (formula_trees (take (min (length xs) i) xs)))
    (terms_of c bs (formula_trees (drop (min (length xs) i) xs))))

-- an argument is no deeper than its row
pub heights_of : (xs : List Formula) (k : ℕ)
    → heights (formula_trees (drop k xs)) ≤ heights (formula_trees xs)
heights_of [] zero = omega arith
heights_of [] (suc k) = omega arith
heights_of (x ∷ xs) zero = omega arith
heights_of (x ∷ xs) (suc k) = omega (arith, heights_of xs k)

-- what is left of a list from a place on
pub drop_next : {A : Type 0} (xs : List A) (k : ℕ) (x d : A) → k < length xs → x ≡ get_or xs k d
    → drop k xs ≡ x ∷ drop (suc k) xs
drop_next [] k x d b e = absurd (omega arith)
drop_next (y ∷ ys) zero x d b e = ap (λ z. z ∷ ys) (sym e)
drop_next (y ∷ ys) (suc k) x d b e = drop_next ys k x d (omega arith) e

pub drop_end : {A : Type 0} (xs : List A) (k : ℕ) → length xs ≤ k → drop k xs ≡ []
drop_end [] zero b = refl
drop_end [] (suc k) b = refl
drop_end (y ∷ ys) zero b = absurd (omega arith)
drop_end (y ∷ ys) (suc k) b = drop_end ys k (omega arith)

-- an argument at a place is no deeper than its row
pub height_at : (xs : List Formula) (k : ℕ) (x d : Formula) → k < length xs → x ≡ get_or xs k d
    → height (formula_tree x) ≤ heights (formula_trees xs)
height_at xs k x d b e =
    let next : heights (formula_trees (drop k xs))
    ≡ max (height (formula_tree x)) (heights (formula_trees (drop (suc k) xs))) =
    ap (λ (l : List Formula). heights (formula_trees l)) (drop_next xs k x d b e) in
    omega (arith, heights_of xs k)
