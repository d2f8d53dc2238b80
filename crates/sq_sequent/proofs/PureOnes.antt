-- The trace formulas of a list, as the program gathers them.
use Rattle.std.proofs.Common.{◌≡◌, ℕ, suc, ◌+◌, ◌<◌, refl, sym, ap, ◌∙◌, List, [], ◌∷◌, ◌++◌, map}
use Rattle.std.proofs.Common.{length, drop, get_or, true, false, add-one}
use Rattle.std.specs.Prelude.{if◌then◌else◌}
use Rattle.std.proofs.Math.Seq.{drop-cons}
use Rattle.sq_term.specs.declared.term.Term.{Term}
use Rattle.sq_term.specs.Pure.{is_pure}
use Rattle.sq_term.specs.Syntax.{TermTree}
use Rattle.sq_term.specs.View.{term_tree}
use Rattle.sq_sequent.specs.Premises.{pure_ones}

trees-push : (xs : List Term) (x : Term) (ys : List TermTree)
    → map term_tree (xs ++ x ∷ []) ++ ys ≡ map term_tree xs ++ (term_tree x ∷ ys)
trees-push [] x ys = refl
trees-push (z ∷ xs) x ys = ap (λ t. term_tree z ∷ t) (trees-push xs x ys)

-- the rest, from item i on
rest_is : (terms : List Term) (i : ℕ) (t : Term) → i < length terms → t ≡ get_or terms i t
    → drop i terms ≡ t ∷ drop (i + 1) terms
rest_is terms i t h e =
    rw add-one (drop-cons terms i t h ∙ ap (λ x. x ∷ drop (suc i) terms) (sym e))

pub pure-kept : (terms out out' : List Term) (i : ℕ) (t : Term) (r : List TermTree)
    → i < length terms → t ≡ get_or terms i t → is_pure (term_tree t) ≡ true → out' ≡ out ++ t ∷ []
    → map term_tree out ++ pure_ones (map term_tree (drop i terms)) ≡ r
    → map term_tree out' ++ pure_ones (map term_tree (drop (i + 1) terms)) ≡ r
pure-kept terms out out' i t r h e p o inv =
    ap (λ x. map term_tree x ++ pure_ones (map term_tree (drop (i + 1) terms))) o
    ∙ (trees-push out t (pure_ones (map term_tree (drop (i + 1) terms)))
    ∙ (ap (λ x. map term_tree out ++ x)
    (sym (ap (λ b. if b then term_tree t
    ∷ pure_ones (map term_tree (drop (i + 1) terms)) else
    (pure_ones (map term_tree (drop (i + 1) terms)))) p))
    ∙ (ap (λ x. map term_tree out ++ pure_ones (map term_tree x)) (sym (rest_is terms i t h e))
    ∙ inv)))

pub pure-left : (terms out : List Term) (i : ℕ) (t : Term) (r : List TermTree) → i < length terms
    → t ≡ get_or terms i t → is_pure (term_tree t) ≡ false
    → map term_tree out ++ pure_ones (map term_tree (drop i terms)) ≡ r
    → map term_tree out ++ pure_ones (map term_tree (drop (i + 1) terms)) ≡ r
pure-left terms out i t r h e p inv =
    ap (λ x. map term_tree out ++ x)
    (sym (ap (λ b. if b then term_tree t
    ∷ pure_ones (map term_tree (drop (i + 1) terms)) else
    (pure_ones (map term_tree (drop (i + 1) terms)))) p))
    ∙ (ap (λ x. map term_tree out ++ pure_ones (map term_tree x)) (sym (rest_is terms i t h e))
    ∙ inv)

pub ruleset pure_rules = (pure-kept, pure-left)
