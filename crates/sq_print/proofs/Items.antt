-- An item is written as one term where its sides are the same, and as both otherwise.
use Rattle.std.proofs.Common.{◌≡◌, ℕ, Bool, true, false, if◌then◌else◌, List, [], ◌++◌, codes, refl}
use Rattle.std.proofs.Common.{sym, ap}
use Rattle.std.proofs.Common.{◌∙◌}
use Rattle.sq_term.specs.declared.term.Term.{Term}
use Rattle.sq_term.specs.TreeEquality.{is_same_tree}
use Rattle.sq_term.specs.View.{term_tree}
use Rattle.sq_term.proofs.SameTrees.{is_same_term-decides}
use Rattle.sq_system.specs.Sequents.{item}
use Rattle.sq_print.specs.Names.{Names}
use Rattle.sq_print.specs.Printed.{term_text}
use Rattle.sq_print.specs.WrittenGoals.{wrote_item}

pub one_side : (ns : Names) (out : List ℕ) (a b : Term) → a ≡ b
    → out ++ term_text ns [] (term_tree a) ≡ wrote_item ns out (item (term_tree a) (term_tree b))
one_side ns out a b e =
    let one = out ++ term_text ns [] (term_tree a) in
    let both =
    ((((out ++ codes "diff(") ++ term_text ns [] (term_tree a)) ++ codes ",") ++ term_text ns []
    (term_tree b)) ++ codes ")" in
    sym (ap (λ s. (if s then one else both)) ((is_same_term-decides a b).1 e))

pub two_sides : (ns : Names) (out p q r s t : List ℕ) (a b : Term) → (a ≡ b → ⊥)
    → p ≡ out ++ codes "diff(" → q ≡ p ++ term_text ns [] (term_tree a) → r ≡ q ++ codes ","
    → s ≡ r ++ term_text ns [] (term_tree b) → t ≡ s ++ codes ")"
    → t ≡ wrote_item ns out (item (term_tree a) (term_tree b))
two_sides ns out p q r s t a b ne ep eq er es et =
    steps ∙ by (is_same_tree (term_tree a) (term_tree b)) refl
  where
    steps : t
        ≡ ((((out ++ codes "diff(") ++ term_text ns [] (term_tree a)) ++ codes ",") ++ term_text ns
        [] (term_tree b)) ++ codes ")"
    steps = et
        ∙ ap (λ x. x ++ codes ")")
        (es ∙ ap (λ x. x ++ term_text ns [] (term_tree b))
        (er ∙ ap (λ x. x ++ codes ",") (eq ∙ ap (λ x. x ++ term_text ns [] (term_tree a)) ep)))

    by : (same : Bool) → is_same_tree (term_tree a) (term_tree b) ≡ same
        → (((((out ++ codes "diff(") ++ term_text ns [] (term_tree a)) ++ codes ",") ++ term_text ns
        [] (term_tree b)) ++ codes ")") ≡ (if same then out ++ term_text ns [] (term_tree a)
        else (((((out ++ codes "diff(") ++ term_text ns [] (term_tree a)) ++ codes ",")
        ++ term_text ns
        [] (term_tree b)) ++ codes ")"))
    by true e = absurd (ne ((is_same_term-decides a b).0 e))
    by false e = refl
