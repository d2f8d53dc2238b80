-- One step of the readers, where a number is not 0.
use Rattle.std.proofs.Common.{◌≡◌, ◌≢◌, ◌<◌, ◌≤◌, ◌-◌, ℕ, zero, suc, List, [], ◌∷◌, ◌++◌}
use Rattle.std.proofs.Common.{Some, None, map, refl, sym, ap, ◌∙◌, arith}
use Rattle.std.proofs.lemmas.List.{map-append}
use Rattle.sq_term.specs.declared.term.Term.{Term}
use Rattle.sq_term.specs.View.{term_tree}
use Rattle.sq_term.specs.Syntax.{TermTree, idx_eq}
use Rattle.sq_term.proofs.Views.{tree_rules, row-map}
use Rattle.sq_cert_words.specs.Reads.{Found, followed, head_word}
use Rattle.sq_cert_terms.specs.Reading.{index, ts, ts_of, term, term_of}
use Rattle.sq_cert_terms.specs.Reading.{terms_on, two_indices}

pub ts-below : (depth : ℕ) (ws : List (List ℕ)) → depth ≢ 0
    → ts depth ws ≡ followed (head_word ws) (ts_of (depth - 1))
unfolding ts
ts-below zero ws some = absurd (some refl)
ts-below (suc room) ws some = let e : suc room - 1 ≡ room = omega arith in rw e

pub ts-none : (ws : List (List ℕ)) → ts 0 ws ≡ None
unfolding ts
ts-none ws = refl

pub term-below : (depth : ℕ) (ws : List (List ℕ)) → depth ≢ 0
    → term depth ws ≡ followed (head_word ws) (term_of (depth - 1))
unfolding term
term-below zero ws some = absurd (some refl)
term-below (suc room) ws some = let e : suc room - 1 ≡ room = omega arith in rw e

pub term-none : (ws : List (List ℕ)) → term 0 ws ≡ None
unfolding term
term-none ws = refl

pub terms_on-none : (part : List (List ℕ) → Found TermTree) (ts : List TermTree)
    (ws : List (List ℕ)) → terms_on part ts 0 ws ≡ Some (ts, ws)
unfolding terms_on
terms_on-none part ts ws = refl

pub terms_on-more : (part : List (List ℕ) → Found TermTree) (ts : List TermTree) (n : ℕ)
    (ws : List (List ℕ)) → 0 < n
    → terms_on part ts n ws ≡ followed (part ws) (λ t r. terms_on part (ts ++ t ∷ []) (n - 1) r)
unfolding terms_on
terms_on-more part ts zero ws some = absurd (omega arith)
terms_on-more part ts (suc n) ws some = let e : suc n - 1 ≡ n = omega arith in rw e

pub two_indices-some : (room : ℕ) (ws : List (List ℕ)) → room ≢ 0
    → two_indices room ws
    ≡ followed (index ws) (λ i r. followed (index r) (λ j q. Some (idx_eq i j, q)))
two_indices-some zero ws some = absurd (some refl)
two_indices-some (suc room) ws some = refl

pub ruleset ts_rules = (ts-below, ts-none)

pub ruleset term_rules = (term-below, term-none)

pub ruleset built_rules = (tree_rules, row-map)

-- one turn of the loop over terms, and its end
pub terms-turn : (part : List (List ℕ) → Found TermTree) (terms more : List Term) (t : Term) (n : ℕ)
    (ws rest : List (List ℕ)) (whole : Found (List TermTree))
    → more ≡ terms ++ t ∷ [] → 0 < n → part ws ≡ Some (term_tree t, rest)
    → terms_on part (map term_tree terms) n ws ≡ whole
    → terms_on part (map term_tree more) (n - 1) rest ≡ whole
terms-turn part terms more t n ws rest whole pushed some found same =
    let longer : map term_tree more ≡ map term_tree terms ++ term_tree t ∷ [] =
    ap (map term_tree) pushed ∙ map-append term_tree terms (t ∷ []) in
    let step : terms_on part (map term_tree terms) n ws
    ≡ terms_on part (map term_tree terms ++ term_tree t ∷ []) (n - 1) rest =
    terms_on-more part (map term_tree terms) n ws some
    ∙ ap (λ f. followed f (λ u r. terms_on part (map term_tree terms ++ u ∷ []) (n - 1) r))
    found in
    ap (λ x. terms_on part x (n - 1) rest) longer ∙ sym step ∙ same

pub terms-end : (part : List (List ℕ) → Found TermTree) (ts : List TermTree) (n : ℕ)
    (ws : List (List ℕ)) (whole : Found (List TermTree))
    → n ≤ 0 → terms_on part ts n ws ≡ whole → whole ≡ Some (ts, ws)
terms-end part ts n ws whole none same = let e : n ≡ 0 =
    omega arith in sym same ∙ ap (λ x. terms_on part ts x ws) e ∙ terms_on-none part ts ws

pub ruleset equation_rules = (two_indices-some, tree_rules)

pub ruleset terms_rules = (terms_on-none, terms_on-more)
