-- What stands in a well-sorted sequent, and what leaves it well-sorted.
use Rattle.std.proofs.Common.{◌≡◌, ℕ, zero, suc, refl, ap, ◌∙◌, List, [], ◌∷◌, ◌++◌, Some, Bool}
use Rattle.std.proofs.Common.{true, false, ◌&&◌}
use Rattle.std.specs.Prelude.{slice_get, slice_set, if◌then◌else◌}
use Rattle.std.specs.List.{list_all}
use Rattle.std.proofs.lemmas.List.Folds.{list_all-append}
use Rattle.sq_base.specs.declared.sort.Sort.TheVariants.{Boolean}
use Rattle.sq_term.specs.Pure.{is_pure}
use Rattle.sq_term.specs.Syntax.{TermTree}
use Rattle.sq_term.proofs.BoolTests.{and_split, and_both}
use Rattle.sq_typing.specs.Standing.{of_trace, of_side, may_stand}
use Rattle.sq_typing.specs.Typing.{Signature, has_sort}
use Rattle.sq_typing.proofs.Formulas.{sort-of, stands}
use Rattle.sq_system.specs.Sequents.{SequentTree, sequent, trace, local, equiv, hyps_of, body_of}
use Rattle.sq_system.specs.Scopes.{subject_of}
use Rattle.sq_system.specs.WellFormed.{is_sorted_body, is_sorted}
use Rattle.sq_sequent.specs.Views.{goal_of, local_goal_of, hyp_of}
use Rattle.sq_sequent.specs.Premises.{asking, assuming, with_hyps, without, pure_ones}

-- ---- lists

pub all-push : {A : Type 0} (p : A → Bool) (xs : List A) (x : A) → list_all p xs ≡ true
    → p x ≡ true → list_all p (xs ++ x ∷ []) ≡ true
all-push p xs x h e =
    list_all-append p xs (x ∷ [])
    ∙ and_both (list_all p xs) (p x && true) h (and_both (p x) true e refl)

pub all-at : {A : Type 0} (p : A → Bool) (xs : List A) (k : ℕ) (x : A) → list_all p xs ≡ true
    → slice_get xs k ≡ Some x → p x ≡ true
all-at p [] k x h e = absurd (cc)
all-at p (y ∷ ys) zero x h e =
    let z : x ≡ y = cc in
    ap p z ∙ (and_split (p y) (list_all p ys) h).0
all-at p (y ∷ ys) (suc k) x h e = all-at p ys k x (and_split (p y) (list_all p ys) h).1 e

pub all-without : {A : Type 0} (p : A → Bool) (xs : List A) (k : ℕ) → list_all p xs ≡ true
    → list_all p (without xs k) ≡ true
all-without p [] k h = refl
all-without p (y ∷ ys) zero h = (and_split (p y) (list_all p ys) h).1
all-without p (y ∷ ys) (suc k) h =
    let s = and_split (p y) (list_all p ys) h in
    and_both (p y) (list_all p (without ys k)) s.0 (all-without p ys k s.1)

pub all-set : {A : Type 0} (p : A → Bool) (xs : List A) (k : ℕ) (x : A) → list_all p xs ≡ true
    → p x ≡ true → list_all p (slice_set xs k x) ≡ true
all-set p [] k x h e = refl
all-set p (y ∷ ys) zero x h e =
    and_both (p x) (list_all p ys) e (and_split (p y) (list_all p ys) h).1
all-set p (y ∷ ys) (suc k) x h e =
    let s = and_split (p y) (list_all p ys) h in
    and_both (p y) (list_all p (slice_set ys k x)) s.0 (all-set p ys k x s.1 e)

-- ---- what stands beside the body of a sequent

abbrev pub suited : Signature → SequentTree → TermTree → Bool
suited g s t = may_stand g (subject_of (body_of s)) Boolean t

module _ (g : Signature) where
  -- of a well-sorted sequent
  pub hyps-sorted : (s : SequentTree) → is_sorted g s ≡ true
      → list_all (suited g s) (hyps_of s) ≡ true
  hyps-sorted (sequent vars hyps body) h =
      (and_split (list_all (may_stand g (subject_of body) Boolean) hyps)
      (is_sorted_body g body) h).0

  pub body-sorted : (s : SequentTree) → is_sorted g s ≡ true → is_sorted_body g (body_of s) ≡ true
  body-sorted (sequent vars hyps body) h =
      (and_split (list_all (may_stand g (subject_of body) Boolean) hyps)
      (is_sorted_body g body) h).1

  pub hyp-suited : (s : SequentTree) (k : ℕ) (t : TermTree) → is_sorted g s ≡ true
      → hyp_of s k ≡ Some t → suited g s t ≡ true
  unfolding hyp_of
  hyp-suited s k t h e = all-at (suited g s) (hyps_of s) k t (hyps-sorted s h) e

  pub goal-suited : (s : SequentTree) (t : TermTree) → is_sorted g s ≡ true
      → goal_of s ≡ Some t → suited g s t ≡ true
  unfolding goal_of
  goal-suited (trace vars hyps goal) t h e =
      let z : t ≡ goal = cc in
      ap (may_stand g of_trace Boolean) z ∙ body-sorted (trace vars hyps goal) h
  goal-suited (local side vars hyps goal) t h e =
      let z : t ≡ goal = cc in
      ap (may_stand g (of_side side) Boolean) z ∙ body-sorted (local side vars hyps goal) h
  goal-suited (equiv vars hyps known items) t h e = absurd (cc)

  -- what leaves it well-sorted
  pub with_hyps-sorted : (s : SequentTree) (H : List TermTree) → is_sorted g s ≡ true
      → list_all (suited g s) H ≡ true → is_sorted g (with_hyps H s) ≡ true
  unfolding with_hyps
  with_hyps-sorted (sequent vars hyps body) H h e =
      and_both (list_all (may_stand g (subject_of body) Boolean) H) (is_sorted_body g body) e
      (body-sorted (sequent vars hyps body) h)

  pub without-sorted : (s : SequentTree) (k : ℕ) → is_sorted g s ≡ true
      → is_sorted g (with_hyps (without (hyps_of s) k) s) ≡ true
  without-sorted s k h =
      with_hyps-sorted s (without (hyps_of s) k) h
      (all-without (suited g s) (hyps_of s) k (hyps-sorted s h))

  pub assuming-sorted : (s : SequentTree) (t : TermTree) → is_sorted g s ≡ true
      → suited g s t ≡ true → is_sorted g (assuming s t) ≡ true
  unfolding assuming
  assuming-sorted (sequent vars hyps body) t h e =
      and_both (list_all (may_stand g (subject_of body) Boolean) (hyps ++ t ∷ []))
      (is_sorted_body g body)
      (all-push (may_stand g (subject_of body) Boolean) hyps t
      (hyps-sorted (sequent vars hyps body) h) e)
      (body-sorted (sequent vars hyps body) h)

  pub asking-sorted : (s : SequentTree) (t : TermTree) → is_sorted g s ≡ true
      → suited g s t ≡ true → is_sorted g (asking s t) ≡ true
  unfolding asking
  asking-sorted (trace vars hyps goal) t h e =
      and_both (list_all (may_stand g of_trace Boolean) hyps) (may_stand g of_trace Boolean t)
      (hyps-sorted (trace vars hyps goal) h) e
  asking-sorted (local side vars hyps goal) t h e =
      and_both (list_all (may_stand g (of_side side) Boolean) hyps)
      (may_stand g (of_side side) Boolean t)
      (hyps-sorted (local side vars hyps goal) h) e
  asking-sorted (equiv vars hyps known items) t h e =
      and_both (list_all (may_stand g of_trace Boolean) hyps) (may_stand g of_trace Boolean t)
      (hyps-sorted (equiv vars hyps known items) h) e

  -- the premises are of the same kind, or trace sequents of an equivalence
  pub asking-suits : (s : SequentTree) (a t : TermTree) → suited g s t ≡ true
      → suited g (asking s a) t ≡ true
  unfolding asking
  asking-suits (trace vars hyps goal) a t h = h
  asking-suits (local side vars hyps goal) a t h = h
  asking-suits (equiv vars hyps known items) a t h = h

  pub assuming-suits : (s : SequentTree) (a t : TermTree) → suited g s t ≡ true
      → suited g (assuming s a) t ≡ true
  unfolding assuming
  assuming-suits (sequent vars hyps body) a t h = h

  -- the trace formulas of a sequent's hypotheses
  pub pure_ones-sorted : (s : SequentTree) (H : List TermTree) → list_all (suited g s) H ≡ true
      → list_all (may_stand g of_trace Boolean) (pure_ones H) ≡ true
  pure_ones-sorted s [] h = refl
  pure_ones-sorted s (t ∷ ts) h =
      let p = and_split (suited g s t) (list_all (suited g s) ts) h in
      kept (is_pure t) refl (sort-of g (subject_of (body_of s)) Boolean t p.0)
      (pure_ones-sorted s ts p.1)
    where
      kept : (b : Bool) → is_pure t ≡ b → has_sort g [] Boolean t ≡ true
          → list_all (may_stand g of_trace Boolean) (pure_ones ts) ≡ true
          → list_all (may_stand g of_trace Boolean) (if b then t ∷ pure_ones ts else pure_ones ts)
          ≡ true
      kept true e f r =
          and_both (may_stand g of_trace Boolean t)
          (list_all (may_stand g of_trace Boolean) (pure_ones ts))
          (stands g of_trace Boolean t f e) r
      kept false e f r = r

-- the same vars
pub local_goal_is : (s : SequentTree) (t : TermTree) → local_goal_of s ≡ Some t → goal_of s ≡ Some t
unfolding local_goal_of goal_of
local_goal_is (trace vars H c) t e = absurd (cc)
local_goal_is (local side vars H c) t e = e
local_goal_is (equiv vars H known items) t e = absurd (cc)
