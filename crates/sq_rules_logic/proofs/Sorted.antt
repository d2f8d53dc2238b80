-- What stands in a well-sorted sequent.
use Rattle.std.proofs.Common.{◌≡◌, ℕ, zero, suc, ap, ◌∙◌, List, [], ◌∷◌, Some, Bool, true}
use Rattle.std.specs.Prelude.{slice_get}
use Rattle.std.specs.List.{list_all}
use Rattle.sq_base.specs.declared.sort.Sort.TheVariants.{Boolean}
use Rattle.sq_term.specs.Syntax.{TermTree}
use Rattle.sq_term.proofs.BoolTests.{and_split}
use Rattle.sq_typing.specs.Standing.{of_trace, of_side, may_stand}
use Rattle.sq_typing.specs.Typing.{Signature}
use Rattle.sq_system.specs.Sequents.{SequentTree, sequent, trace, local, equiv, body_of}
use Rattle.sq_system.specs.Scopes.{subject_of}
use Rattle.sq_system.specs.WellFormed.{is_sorted_body, is_sorted}
use Rattle.sq_sequent.specs.Views.{goal_of, hyp_of}

all-at : {A : Type 0} (p : A → Bool) (xs : List A) (k : ℕ) (x : A) → list_all p xs ≡ true
    → slice_get xs k ≡ Some x → p x ≡ true
all-at p [] k x h e = absurd (cc)
all-at p (y ∷ ys) zero x h e =
    let z : x ≡ y = cc in ap p z ∙ (and_split (p y) (list_all p ys) h).0
all-at p (y ∷ ys) (suc k) x h e = all-at p ys k x (and_split (p y) (list_all p ys) h).1 e

module _ (g : Signature) where
  pub hyp-stands : (s : SequentTree) (k : ℕ) (t : TermTree) → is_sorted g s ≡ true
      → hyp_of s k ≡ Some t → may_stand g (subject_of (body_of s)) Boolean t ≡ true
  unfolding hyp_of
  hyp-stands (sequent vars H body) k t h e =
      all-at (may_stand g (subject_of body) Boolean) H k t
      (and_split (list_all (may_stand g (subject_of body) Boolean) H) (is_sorted_body g body) h).0 e

  pub goal-stands : (s : SequentTree) (t : TermTree) → is_sorted g s ≡ true → goal_of s ≡ Some t
      → may_stand g (subject_of (body_of s)) Boolean t ≡ true
  unfolding goal_of
  goal-stands (trace vars H c) t h e =
      let z : t ≡ c = cc in
      ap (may_stand g of_trace Boolean) z
      ∙ (and_split (list_all (may_stand g of_trace Boolean) H) (may_stand g of_trace Boolean c) h).1
  goal-stands (local side vars H c) t h e =
      let z : t ≡ c = cc in
      ap (may_stand g (of_side side) Boolean) z
      ∙ (and_split (list_all (may_stand g (of_side side) Boolean) H)
      (may_stand g (of_side side) Boolean c) h).1
  goal-stands (equiv vars H known items) t h e = absurd (cc)
