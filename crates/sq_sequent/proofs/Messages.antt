-- The messages of arguments, as the program gathers them.
use Rattle.std.proofs.Common.{◌≡◌, ℕ, suc, ◌+◌, ◌<◌, ◌≤◌, refl, sym, ap, ◌∙◌, List, [], ◌∷◌, ◌++◌}
use Rattle.std.proofs.Common.{map, length, drop, get_or, Option, Some, None, add-one}
use Rattle.std.proofs.Math.Seq.{drop-cons}
use Rattle.std.proofs.lemmas.List.{drop_all}
use Rattle.sq_base.specs.declared.sort.Sort.TheVariants.{Message}
use Rattle.sq_term.specs.declared.term.Term.{Term}
use Rattle.sq_term.specs.Syntax.{TermTree}
use Rattle.sq_term.specs.View.{term_tree}
use Rattle.sq_step.specs.declared.step.TermArg.{TermArg}
use Rattle.sq_sequent.specs.Site.{Site}
use Rattle.sq_sequent.specs.Standing.{term_in}
use Rattle.sq_sequent.specs.Uses.{with_first, messages_in}

-- these messages before those of the rest, if there are any
abbrev pub before : List TermTree → Option (List TermTree) → Option (List TermTree)
before [] rest = rest
before (t ∷ ts) rest = with_first (Some t) (before ts rest)

before-push : (ts : List TermTree) (t : TermTree) (rest : Option (List TermTree))
    → before (ts ++ t ∷ []) rest ≡ before ts (with_first (Some t) rest)
before-push [] t rest = refl
before-push (u ∷ us) t rest = ap (with_first (Some u)) (before-push us t rest)

before-none : (ts : List TermTree) → before ts None ≡ None
before-none [] = refl
before-none (t ∷ ts) = ap (with_first (Some t)) (before-none ts)

before-end : (ts : List TermTree) → before ts (Some []) ≡ Some ts
before-end [] = refl
before-end (t ∷ ts) = ap (with_first (Some t)) (before-end ts)

trees-push : (xs : List Term) (x : Term)
    → map term_tree (xs ++ x ∷ []) ≡ map term_tree xs ++ term_tree x ∷ []
trees-push [] x = refl
trees-push (z ∷ xs) x = ap (λ ts. term_tree z ∷ ts) (trees-push xs x)

module _ (at : Site) (args : List TermArg) where
  -- the rest, from argument i on
  rest_is : (i : ℕ) (w : TermArg) (o : Option TermTree) → i < length args → w ≡ get_or args i w
      → o ≡ term_in at Message w
      → messages_in at (drop i args) ≡ with_first o (messages_in at (drop (i + 1) args))
  rest_is i w o h e q =
      rw add-one
      (ap (messages_in at) (drop-cons args i w h ∙ ap (λ x. x ∷ drop (suc i) args) (sym e))
      ∙ ap (λ x. with_first x (messages_in at (drop (suc i) args))) (sym q))

  pub message-next : (out out' : List Term) (i : ℕ) (w : TermArg) (t : Term)
      (r : Option (List TermTree)) → i < length args → w ≡ get_or args i w
      → Some (term_tree t) ≡ term_in at Message w → out' ≡ out ++ t ∷ []
      → before (map term_tree out) (messages_in at (drop i args)) ≡ r
      → before (map term_tree out') (messages_in at (drop (i + 1) args)) ≡ r
  message-next out out' i w t r h e q o inv =
      ap (λ x. before (map term_tree x) (messages_in at (drop (i + 1) args))) o
      ∙ (ap (λ x. before x (messages_in at (drop (i + 1) args))) (trees-push out t)
      ∙ (before-push (map term_tree out) (term_tree t) (messages_in at (drop (i + 1) args))
      ∙ (ap (before (map term_tree out)) (sym (rest_is i w (Some (term_tree t)) h e q)) ∙ inv)))

  pub message-missing : (out : List Term) (i : ℕ) (w : TermArg) (r : Option (List TermTree))
      → i < length args → w ≡ get_or args i w
      → None ≡ term_in at Message w → before (map term_tree out) (messages_in at (drop i args)) ≡ r
      → None ≡ r
  message-missing out i w r h e q inv =
      sym (before-none (map term_tree out))
      ∙ (ap (before (map term_tree out)) (sym (rest_is i w None h e q)) ∙ inv)

  pub messages-all : (out : List Term) (i : ℕ) (r : Option (List TermTree)) → length args ≤ i
      → before (map term_tree out) (messages_in at (drop i args)) ≡ r → Some (map term_tree out) ≡ r
  messages-all out i r h inv =
      sym (before-end (map term_tree out))
      ∙ (ap (λ x. before (map term_tree out) (messages_in at x)) (sym (drop_all i args h))
      ∙ inv)

pub ruleset message_rules = (message-next, message-missing)
