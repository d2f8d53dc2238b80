-- Formulas over lists, as the program gathers and nests them.
use Rattle.std.proofs.Common.{◌≡◌, refl, sym, ap, ◌∙◌, ℕ, suc, ◌+◌, List, [], ◌∷◌, ◌++◌, map}
use Rattle.std.proofs.lemmas.List.{map-append, append-nil}
use Rattle.sq_term.specs.declared.term.Idx.{Idx}
use Rattle.sq_term.specs.declared.term.Term.{Term}
use Rattle.sq_term.specs.declared.term.Term.TheVariants as tm
use Rattle.sq_term.specs.Formulas.{binary}
use Rattle.sq_term.specs.Symbols as kind
use Rattle.sq_term.specs.Symbols.{Kind}
use Rattle.sq_term.specs.Syntax.{TermTree, idx_eq}
use Rattle.sq_term.specs.View.{term_tree}
use Rattle.sq_term.proofs.Views.{term_tree-IdxEq}
use Rattle.sq_occ.specs.Facts.{conj_of, disj_of_all, equations}
use Rattle.sq_rules_trace.specs.Nested.{nested}

nested-push : (k unit : Kind) (xs : List TermTree) (t u : TermTree)
    → nested k unit (xs ++ t ∷ u ∷ []) ≡ nested k unit (xs ++ binary k t u ∷ [])
nested-push k unit [] t u = refl
nested-push k unit (x ∷ []) t u = refl
nested-push k unit (x ∷ y ∷ xs) t u = ap (binary k x) (nested-push k unit (y ∷ xs) t u)

trees-end : (parts front : List Term) (last : Term) → parts ≡ front ++ last ∷ []
    → map term_tree parts ≡ map term_tree front ++ term_tree last ∷ []
trees-end parts front last e = ap (map term_tree) e ∙ map-append term_tree front (last ∷ [])

-- the parts that are left, before what the others are nested to
abbrev pub nested_so_far : Kind → Kind → List Term → Term → TermTree
nested_so_far k unit parts whole = nested k unit (map term_tree parts ++ term_tree whole ∷ [])

pub nested-start : (k unit : Kind) (parts front : List Term) (last : Term)
    → parts ≡ front ++ last ∷ []
    → nested_so_far k unit front last ≡ nested k unit (map term_tree parts)
nested-start k unit parts front last e = ap (nested k unit) (sym (trees-end parts front last e))

pub nested-step : (k unit : Kind) (parts front : List Term) (part whole next : Term) (n : TermTree)
    → parts ≡ front ++ part ∷ []
    → term_tree next ≡ binary k (term_tree part) (term_tree whole)
    → nested_so_far k unit parts whole ≡ n → nested_so_far k unit front next ≡ n
nested-step k unit parts front part whole next n e b h =
    ap (λ t. nested k unit (map term_tree front ++ t ∷ [])) b
    ∙ (sym (nested-push k unit (map term_tree front) (term_tree part) (term_tree whole))
    ∙ (ap (nested k unit) (joined (map term_tree front))
    ∙ (ap (λ ts. nested k unit (ts ++ term_tree whole ∷ [])) (sym (trees-end parts front part e))
    ∙ h)))
  where
    joined : (xs : List TermTree) → xs ++ term_tree part ∷ term_tree whole ∷ []
        ≡ (xs ++ term_tree part ∷ []) ++ term_tree whole ∷ []
    joined [] = refl
    joined (x ∷ xs) = ap (λ ts. x ∷ ts) (joined xs)

pub conj-nested : (ts : List TermTree) → conj_of ts ≡ nested kind.conjunction kind.truth ts
conj-nested [] = refl
conj-nested (t ∷ []) = refl
conj-nested (t ∷ u ∷ rest) = ap (binary kind.conjunction t) (conj-nested (u ∷ rest))

pub disj-nested : (ts : List TermTree) → disj_of_all ts ≡ nested kind.disjunction kind.falsity ts
disj-nested [] = refl
disj-nested (t ∷ []) = refl
disj-nested (t ∷ u ∷ rest) = ap (binary kind.disjunction t) (disj-nested (u ∷ rest))

pub ruleset conj_rules = (conj-nested)

-- ---- equations of indices

pub trees-push : (xs : List Term) (x : Term) (y : TermTree) (ys : List TermTree) → term_tree x ≡ y
    → map term_tree (xs ++ x ∷ []) ++ ys ≡ map term_tree xs ++ (y ∷ ys)
trees-push [] x y ys e = ap (λ t. t ∷ ys) e
trees-push (z ∷ xs) x y ys e = ap (λ t. term_tree z ∷ t) (trees-push xs x y ys e)

pub equation-step : (out next : List Term) (left right is js : List Idx) (i j : Idx)
    (n : List TermTree) → left ≡ i ∷ is → right ≡ j ∷ js → next ≡ out ++ tm.IdxEq i j ∷ []
    → map term_tree out ++ equations left right ≡ n → map term_tree next ++ equations is js ≡ n
equation-step out next left right is js i j n e f o inv =
    ap (λ l. map term_tree l ++ equations is js) o
    ∙ (trees-push out (tm.IdxEq i j) (idx_eq i j) (equations is js) (term_tree-IdxEq i j)
    ∙ (ap (λ l. map term_tree out ++ equations l (j ∷ js)) (sym e)
    ∙ (ap (λ l. map term_tree out ++ equations left l) (sym f) ∙ inv)))

pub equation-first : (out : List Term) (left right : List Idx) (n : List TermTree) → left ≡ []
    → map term_tree out ++ equations left right ≡ n → map term_tree out ≡ n
equation-first out left right n e inv =
    sym (append-nil (map term_tree out))
    ∙ (ap (λ l. map term_tree out ++ equations l right) (sym e) ∙ inv)

none-left : (left : List Idx) → equations left [] ≡ []
none-left [] = refl
none-left (i ∷ is) = refl

pub equation-second : (out : List Term) (left right : List Idx) (n : List TermTree) → right ≡ []
    → map term_tree out ++ equations left right ≡ n → map term_tree out ≡ n
equation-second out left right n e inv =
    sym (append-nil (map term_tree out))
    ∙ (ap (λ l. map term_tree out ++ l) (sym (none-left left))
    ∙ (ap (λ l. map term_tree out ++ equations left l) (sym e) ∙ inv))

pub ruleset equation_rules = (equation-step, equation-first, equation-second)

pub ruleset nested_rules = (nested-start, nested-step)
