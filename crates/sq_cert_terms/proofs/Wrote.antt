-- A text with words at its end, one part after another.
use Rattle.std.proofs.Common.{◌≡◌, ◌+◌, ◌<◌, ℕ, suc, List, [], ◌∷◌, ◌++◌, length, drop, get_or}
use Rattle.std.proofs.Common.{refl, sym, ap, ◌∙◌, append_assoc, append-nil, add-one, drop-cons}
use Rattle.sq_term.specs.declared.term.Term.{Term}
use Rattle.sq_term.specs.Measure.{count_terms}
use Rattle.sq_term.specs.View.{term_tree, term_trees}
use Rattle.sq_term.proofs.KindNumbers.{function_number-kind_of}
use Rattle.sq_term.proofs.Views.{tree_rules}
use Rattle.sq_cert_words.specs.Spelling.{term_words, all_words}
use Rattle.sq_cert_words.specs.Spelling.{blanked}
use Rattle.sq_cert_words.proofs.LineLaws.{wrote-first, wrote-more, wrote-one, blanked-append}

pub count_terms-term_trees : (ts : List Term) → count_terms (term_trees ts) ≡ length ts
count_terms-term_trees [] = refl
count_terms-term_trees (t ∷ ts) = ap suc (count_terms-term_trees ts)

pub ruleset wrote_rules = (
  tree_rules,
  wrote-first,
  wrote-more,
  wrote-one,
  count_terms-term_trees,
  function_number-kind_of,
)

pub ruleset index_rules = (wrote-first, wrote-more, wrote-one)

-- one turn of the loop over terms
pub wrote-term : (out new whole : List ℕ) (ts : List Term) (k : ℕ) (t : Term) → k < length ts
    → t ≡ get_or ts k t
    → new ≡ out ++ blanked (term_words (term_tree t))
    → out ++ blanked (all_words (term_trees (drop k ts))) ≡ whole
    → new ++ blanked (all_words (term_trees (drop (k + 1) ts))) ≡ whole
wrote-term out new whole ts k t within item wrote same =
    let one : k + 1 ≡ suc k = add-one k in
    let cut : drop k ts ≡ t ∷ drop (k + 1) ts =
    drop-cons ts k t within ∙ (λ i. sym item i ∷ drop (sym one i) ts) in
    ap (λ x. x ++ blanked (all_words (term_trees (drop (k + 1) ts)))) wrote
    ∙ wrote-more out (term_words (term_tree t)) (all_words (term_trees (drop (k + 1) ts)))
    ∙ ap (λ x. out ++ blanked (all_words (term_trees x))) (sym cut) ∙ same

pub wrote-equation : (out a b c : List ℕ)
    → ((out ++ 32 ∷ a) ++ 32 ∷ b) ++ 32 ∷ c ≡ out ++ blanked (a ∷ b ∷ c ∷ [])
wrote-equation out a b c =
    ap (λ x. x ++ 32 ∷ c) (append_assoc out (32 ∷ a) (32 ∷ b))
    ∙ append_assoc out ((32 ∷ a) ++ 32 ∷ b) (32 ∷ c)
    ∙ ap (λ x. out ++ x) (append_assoc (32 ∷ a) (32 ∷ b) (32 ∷ c)
    ∙ ap (λ x. 32 ∷ (a ++ 32 ∷ (b ++ 32 ∷ x))) (sym (append-nil c)))

pub ruleset equation_rules = (wrote-equation)
