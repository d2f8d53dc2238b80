-- Places in lists of nodes that stand one behind the other.
use Rattle.std.proofs.Common.{◌≡◌, ◌≢◌, ℕ, zero, suc, ◌+◌, ◌-◌, ◌<◌, List, [], ◌∷◌, ◌++◌, map}
use Rattle.std.proofs.Common.{length, drop, get_or, Some, None, refl, sym, ap, ◌∙◌, arith, add-one}
use Rattle.std.proofs.Math.Seq.{drop-cons}
use Rattle.std.specs.Prelude.{slice_get}
use Rattle.sq_term.specs.declared.term.Idx.{Idx}
use Rattle.sq_term.specs.declared.term.Term.{Term}
use Rattle.sq_term.specs.View.{term_tree, term_trees}
use Rattle.sq_term.proofs.Views.{open_rules}
use Rattle.sq_sequent.specs.Places.{Node, term_node, idx_node, Reached, at, past, reached}
use Rattle.sq_sequent.specs.Places.{inner_nodes, all_nodes}

pub first-here : (xs ys : List Node) (k : ℕ) (n : Node) → at n ≡ reached xs k
    → at n ≡ reached (xs ++ ys) k
first-here [] ys k n e = absurd (cc)
first-here (x ∷ xs) ys zero n e = e
first-here (x ∷ xs) ys (suc k) n e = first-here xs ys k n e

pub then-on : (xs ys : List Node) (k j : ℕ) → past j ≡ reached xs k
    → reached ys j ≡ reached (xs ++ ys) k
then-on [] ys k j e = let z : j ≡ k = cc in ap (reached ys) z
then-on (x ∷ xs) ys zero j e = absurd (cc)
then-on (x ∷ xs) ys (suc k) j e = then-on xs ys k j e

pub reached-first : (n : Node) (ns : List Node) (k : ℕ) → k ≡ 0 → at n ≡ reached (n ∷ ns) k
reached-first n ns k e = sym (ap (reached (n ∷ ns)) e)

pub reached-next : (n : Node) (ns : List Node) (k : ℕ) → k ≢ 0
    → reached ns (k - 1) ≡ reached (n ∷ ns) k
reached-next n ns zero h = absurd (h refl)
reached-next n ns (suc k) h = let e : suc k - 1 ≡ k = omega arith in ap (reached ns) e

pub index-some : (is : List Idx) (k : ℕ) (i : Idx) → slice_get is k ≡ Some i
    → at (idx_node i) ≡ reached (map idx_node is) k
index-some [] k i e = absurd (cc)
index-some (j ∷ is) zero i e = let z : i ≡ j = cc in ap (λ x. at (idx_node x)) z
index-some (j ∷ is) (suc k) i e = index-some is k i e

pub index-none : (is : List Idx) (k : ℕ) → slice_get is k ≡ None
    → past (k - length is) ≡ reached (map idx_node is) k
index-none [] k e = let z : k - 0 ≡ k = omega arith in ap past z
index-none (j ∷ is) zero e = absurd (cc)
index-none (j ∷ is) (suc k) e = let z : suc k - suc (length is) ≡ k - length is =
    omega arith in ap past z ∙ index-none is k e

pub get-at : (ns : List Node) (k : ℕ) (n : Node) → at n ≡ reached ns k → Some n ≡ slice_get ns k
get-at [] k n e = absurd (cc)
get-at (x ∷ ns) zero n e = cc
get-at (x ∷ ns) (suc k) n e = get-at ns k n e

pub get-past : (ns : List Node) (k j : ℕ) → past j ≡ reached ns k → None ≡ slice_get ns k
get-past [] k j e = refl
get-past (x ∷ ns) zero j e = absurd (cc)
get-past (x ∷ ns) (suc k) j e = get-past ns k j e

-- ---- lists of terms

rest_is : (terms : List Term) (i : ℕ) (t : Term) → i < length terms → t ≡ get_or terms i t
    → drop i terms ≡ t ∷ drop (i + 1) terms
rest_is terms i t h e =
    rw add-one (drop-cons terms i t h ∙ ap (λ x. x ∷ drop (suc i) terms) (sym e))

-- behind the first node of item i
behind : (terms : List Term) (i rest : ℕ) (t : Term) (r : Reached) → i < length terms
    → t ≡ get_or terms i t → rest ≢ 0
    → reached (all_nodes (term_trees (drop i terms))) rest ≡ r
    → reached (inner_nodes (term_tree t) ++ all_nodes (term_trees (drop (i + 1) terms)))
    (rest - 1) ≡ r
behind terms i rest t r h e ne inv =
    reached-next (term_node (term_tree t))
    (inner_nodes (term_tree t) ++ all_nodes (term_trees (drop (i + 1) terms))) rest ne
    ∙ (ap (λ x. reached (all_nodes (term_trees x)) rest) (sym (rest_is terms i t h e)) ∙ inv)

pub found-among : (terms : List Term) (i rest : ℕ) (t : Term) (n : Node) (r : Reached)
    → i < length terms → t ≡ get_or terms i t → rest ≢ 0
    → reached (all_nodes (term_trees (drop i terms))) rest ≡ r
    → at n ≡ reached (inner_nodes (term_tree t)) (rest - 1) → at n ≡ r
found-among terms i rest t n r h e ne inv f =
    first-here (inner_nodes (term_tree t)) (all_nodes (term_trees (drop (i + 1) terms)))
    (rest - 1) n f ∙ behind terms i rest t r h e ne inv

pub next-among : (terms : List Term) (i rest left : ℕ) (t : Term) (r : Reached) → i < length terms
    → t ≡ get_or terms i t → rest ≢ 0
    → reached (all_nodes (term_trees (drop i terms))) rest ≡ r
    → past left ≡ reached (inner_nodes (term_tree t)) (rest - 1)
    → reached (all_nodes (term_trees (drop (i + 1) terms))) left ≡ r
next-among terms i rest left t r h e ne inv f =
    then-on (inner_nodes (term_tree t)) (all_nodes (term_trees (drop (i + 1) terms)))
    (rest - 1) left f ∙ behind terms i rest t r h e ne inv

pub ruleset list_rules =
    (first-here, then-on, reached-first, reached-next, index-some, index-none, get-at, get-past)

pub ruleset walk_rules = (open_rules, list_rules)
