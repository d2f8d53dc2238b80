-- Applications of one function, and their arguments one after the other.
use Rattle.std.proofs.Common.{◌≡◌, ◌≢◌, ◌==◌, ◌&&◌, ℕ, suc, ◌+◌, ◌<◌, refl, sym, ap, ◌∙◌, List, []}
use Rattle.std.proofs.Common.{◌∷◌, ◌++◌, length, drop, get_or, Option, Some, None, Bool, true}
use Rattle.std.proofs.Common.{false, add-one}
use Rattle.std.specs.Prelude.{if◌then◌else◌}
use Rattle.std.proofs.Math.Seq.{drop-cons}
use Rattle.std.specs.Cmp.Lexicographic.{pointwise, pointwise_decides}
use Rattle.std.proofs.lemmas.Bool.Decides.{Decides-eqb}
use Rattle.sq_term.specs.declared.term.Idx.{Idx}
use Rattle.sq_term.specs.declared.term.Term.{Term}
use Rattle.sq_term.specs.declared.term.Term.TheVariants as tm
use Rattle.sq_term.specs.Builtins.{takes_boolean}
use Rattle.sq_term.specs.Measure.{count_terms}
use Rattle.sq_term.specs.Symbols.{Kind, same_kind, kind_of}
use Rattle.sq_term.specs.TsEquality.{is_same_idx, is_same_idx-decides}
use Rattle.sq_term.specs.View.{term_tree, term_trees}
use Rattle.sq_term.proofs.BoolTests.{and_both}
use Rattle.sq_term.proofs.Views.{term_tree-Fun, open_rules}
use Rattle.sq_system.specs.declared.sequent.Sequent.{Sequent}
use Rattle.sq_system.specs.Sequents.{SequentTree, sequent_tree}
use Rattle.sq_sequent.specs.Premises.{asking}
use Rattle.sq_sequent.specs.Logic.{sequent_trees, applications_row}
use Rattle.sq_sequent.specs.Premises.{asked_alike, arguments_asked}
use Rattle.sq_term.proofs.Connectives.{count_terms-trees}
use Rattle.sq_term.proofs.KindNumbers.{kind_of-same, same_kind-decides}

trees-push : (xs : List Sequent) (x : Sequent) (ys : List SequentTree)
    → sequent_trees (xs ++ x ∷ []) ++ ys ≡ sequent_trees xs ++ (sequent_tree x ∷ ys)
trees-push [] x ys = refl
trees-push (z ∷ xs) x ys = ap (λ t. sequent_tree z ∷ t) (trees-push xs x ys)

-- the rest, from item k on
rest_is : (terms : List Term) (k : ℕ) (t : Term) → k < length terms → t ≡ get_or terms k t
    → drop k terms ≡ t ∷ drop (suc k) terms
rest_is terms k t h e = drop-cons terms k t h ∙ ap (λ x. x ∷ drop (suc k) terms) (sym e)

-- one more premise
pub argument-next : (s : SequentTree) (f : Kind) (k : ℕ) (us vs : List Term) (u v : Term)
    (out out' : List Sequent) (p : Sequent) (r : List SequentTree)
    → k < length us → k < length vs → u ≡ get_or us k u → v ≡ get_or vs k v
    → sequent_tree p ≡ asking s (asked_alike (takes_boolean f k) (term_tree u) (term_tree v))
    → out' ≡ out ++ p ∷ []
    → sequent_trees out ++ arguments_asked s f k (term_trees (drop k us)) (term_trees (drop k vs))
    ≡ r
    → sequent_trees out' ++ arguments_asked s f (k + 1) (term_trees (drop (k + 1) us))
    (term_trees (drop (k + 1) vs)) ≡ r
argument-next s f k us vs u v out out' p r h h' e e' q o inv =
    let rest : List SequentTree =
    arguments_asked s f (suc k) (term_trees (drop (suc k) us)) (term_trees (drop (suc k) vs)) in
    rw add-one
    (ap (λ x. sequent_trees x ++ rest) o
    ∙ (trees-push out p rest
    ∙ (ap (λ x. sequent_trees out ++ (x ∷ rest)) q
    ∙ (ap (λ x. sequent_trees out ++ arguments_asked s f k (term_trees x)
    (term_trees (v ∷ drop (suc k) vs))) (sym (rest_is us k u h e))
    ∙ (ap (λ x. sequent_trees out ++ arguments_asked s f k (term_trees (drop k us)) (term_trees x))
    (sym (rest_is vs k v h' e')) ∙ inv)))))

pub ruleset argument_rules = (argument-next)

-- the same function, indices and count of arguments, and others
same_number : (m n : ℕ) → m ≡ n → (m == n) ≡ true
same_number m n e = (Decides-eqb m n).1 e

other_number : (m n : ℕ) → m ≢ n → (m == n) ≡ false
other_number m n e = go (m == n) refl
  where
    go : (b : Bool) → (m == n) ≡ b → b ≡ false
    go true h = absurd (e ((Decides-eqb m n).0 h))
    go false h = refl

same_function : (f g : ℕ) → f ≡ g → same_kind (kind_of f) (kind_of g) ≡ true
same_function f g e = (same_kind-decides (kind_of f) (kind_of g)).1 (ap kind_of e)

other_function : (f g : ℕ) → f ≢ g → same_kind (kind_of f) (kind_of g) ≡ false
other_function f g e = go (same_kind (kind_of f) (kind_of g)) refl
  where
    go : (b : Bool) → same_kind (kind_of f) (kind_of g) ≡ b → b ≡ false
    go true h = absurd (e (kind_of-same f g ((same_kind-decides (kind_of f) (kind_of g)).0 h)))
    go false h = refl

other_indices : (is js : List Idx) → is ≢ js → pointwise is_same_idx is js ≡ false
other_indices is js e = go (pointwise is_same_idx is js) refl
  where
    go : (b : Bool) → pointwise is_same_idx is js ≡ b → b ≡ false
    go true h = absurd (e ((pointwise_decides is_same_idx-decides is js).0 h))
    go false h = refl

abbrev row_where : Bool → List SequentTree → Option (List SequentTree)
row_where b ps = if b then Some ps else None

no_second : (a b : Bool) → b ≡ false → (a && b) ≡ false
no_second true b e = e
no_second false b e = refl

-- the test of the applications
abbrev alike : ℕ → ℕ → List Idx → List Idx → List Term → List Term → Bool
alike f g is js us vs =
    same_kind (kind_of f) (kind_of g)
    && (pointwise is_same_idx is js && (count_terms (term_trees us) == count_terms (term_trees vs)))

applications : (s : SequentTree) (f g : ℕ) (is js : List Idx) (us vs : List Term) (b : Bool)
    → alike f g is js us vs ≡ b
    → applications_row s (term_tree (tm.Fun f is us)) (term_tree (tm.Fun g js vs))
    ≡ row_where b (arguments_asked s (kind_of f) 0 (term_trees us) (term_trees vs))
unfolding applications_row
applications s f g is js us vs b e =
    rw (term_tree-Fun f is us, term_tree-Fun g js vs)
    (ap (λ q. row_where q (arguments_asked s (kind_of f) 0 (term_trees us) (term_trees vs))) e)

pub applications-same : (s : SequentTree) (f g : ℕ) (is js : List Idx) (us vs : List Term) → f ≡ g
    → is ≡ js → length us ≡ length vs
    → applications_row s (term_tree (tm.Fun f is us)) (term_tree (tm.Fun g js vs))
    ≡ Some (arguments_asked s (kind_of f) 0 (term_trees us) (term_trees vs))
applications-same s f g is js us vs e i n =
    applications s f g is js us vs true
    (and_both (same_kind (kind_of f) (kind_of g)) _ (same_function f g e)
    (and_both (pointwise is_same_idx is js) _ ((pointwise_decides is_same_idx-decides is js).1 i)
    (same_number (count_terms (term_trees us)) (count_terms (term_trees vs))
    (count_terms-trees us ∙ (n ∙ sym (count_terms-trees vs))))))

pub applications-function : (s : SequentTree) (f g : ℕ) (is js : List Idx) (us vs : List Term)
    → f ≢ g
    → applications_row s (term_tree (tm.Fun f is us)) (term_tree (tm.Fun g js vs)) ≡ None
applications-function s f g is js us vs e =
    applications s f g is js us vs false
    (ap (λ b. b
    && (pointwise is_same_idx is js
    && (count_terms (term_trees us) == count_terms (term_trees vs))))
    (other_function f g e))

pub applications-indices : (s : SequentTree) (f g : ℕ) (is js : List Idx) (us vs : List Term)
    → is ≢ js
    → applications_row s (term_tree (tm.Fun f is us)) (term_tree (tm.Fun g js vs)) ≡ None
applications-indices s f g is js us vs e =
    applications s f g is js us vs false
    (no_second (same_kind (kind_of f) (kind_of g)) _
    (ap (λ b. b && (count_terms (term_trees us) == count_terms (term_trees vs)))
    (other_indices is js e)))

pub applications-count : (s : SequentTree) (f g : ℕ) (is js : List Idx) (us vs : List Term)
    → length us ≢ length vs
    → applications_row s (term_tree (tm.Fun f is us)) (term_tree (tm.Fun g js vs)) ≡ None
applications-count s f g is js us vs e =
    applications s f g is js us vs false
    (no_second (same_kind (kind_of f) (kind_of g)) _
    (no_second (pointwise is_same_idx is js) _
    (other_number (count_terms (term_trees us)) (count_terms (term_trees vs))
    (λ i. e (sym (count_terms-trees us) ∙ (i ∙ count_terms-trees vs))))))

pub ruleset application_rules = (
  open_rules,
  applications-same,
  applications-function,
  applications-indices,
  applications-count,
)
