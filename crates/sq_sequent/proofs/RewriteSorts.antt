-- What is rewritten keeps its sort, speaks of what it spoke of, and has no other `diff`.
use Rattle.std.proofs.Common.{◌≡◌, refl, ap, List, [], ◌∷◌, map, Bool, true, false, ◌||◌, not}
use Rattle.std.specs.List.{list_all}
use Rattle.sq_base.specs.declared.sort.Sort.{Sort}
use Rattle.sq_base.specs.declared.sort.Sort.TheVariants.{Message, Boolean}
use Rattle.sq_term.specs.declared.term.Side.{Side}
use Rattle.sq_term.specs.declared.term.Side.TheVariants.{Left, Right, Both}
use Rattle.sq_term.specs.Formulas.{implies, equal}
use Rattle.sq_term.specs.Symbols as kind
use Rattle.sq_term.specs.Syntax.{TermTree, ts_eq, idx_eq}
use Rattle.sq_term.proofs.BoolTests.{and_split}
use Rattle.sq_subst.specs.Renaming.{exchanging, idx_replaced}
use Rattle.sq_subst.specs.Replacement.{exchanging_times, ts_replaced, term_replaced}
use Rattle.sq_typing.specs.Diffs.{holds_diff}
use Rattle.sq_typing.specs.Standing.{Subject, of_trace, of_side, suits, may_stand}
use Rattle.sq_typing.specs.Typing.{Signature, is_index, is_timestamp}
use Rattle.sq_typing.proofs.Formulas.{not_true, sort-of, suits-of, stands, stands-from}
use Rattle.sq_typing.proofs.Formulas.{first-stands, second-stands}
use Rattle.sq_system.specs.Scopes.{subject_of}
use Rattle.sq_system.specs.Sequents.{Item, item, Body, trace_body, local_body, equiv_body, body_of}
use Rattle.sq_system.specs.WellFormed.{has_both_sorts, is_item}
use Rattle.sq_formula.proofs.KeptParts.{pure_kept, no_diff}
use Rattle.sq_formula.proofs.KeptSorts.{no_some, both_kept}
use Rattle.sq_formula.proofs.ReplacedSorts.{term-sort, term-no_diff, time-sort, index-sort}
use Rattle.sq_step.specs.declared.step.Dir.{Dir}
use Rattle.sq_step.specs.declared.step.Dir.TheVariants.{Forward, Backward}
use Rattle.sq_sequent.specs.Rewriting.{Rewriting, term_by, time_by, index_by, turned, rewritten}
use Rattle.sq_sequent.specs.Rewriting.{item_rewritten}
use Rattle.sq_sequent.specs.Rows.{IsOn, Equates, messages, times, indices, formulas}
use Rattle.sq_sequent.specs.Site.{Site}

-- what is exchanged in what speaks of this: terms of one sort on a side, timestamps, or indices
abbrev pub IsTyped : Signature → Subject → Rewriting → Type 0
IsTyped g about (term_by a b) =
    (side : Side) × (r : Sort) × (about ≡ of_side side) × (may_stand g about r a ≡ true)
    × (may_stand g about r b ≡ true)
IsTyped g about (time_by x y) = (is_timestamp g [] x ≡ true) × (is_timestamp g [] y ≡ true)
IsTyped g about (index_by i j) = (is_index g [] i ≡ true) × (is_index g [] j ≡ true)

-- terms are not exchanged in what speaks of the trace
pub anywhere : (g : Signature) (r : Rewriting) (about : Subject) → IsTyped g of_trace r
    → IsTyped g about r
anywhere g (term_by a b) about (side, r, is, h, k) = absurd (cc)
anywhere g (time_by x y) about h = h
anywhere g (index_by i j) about h = h

pub turned-typed : (g : Signature) (about : Subject) (d : Dir) (r : Rewriting)
    → IsTyped g about r → IsTyped g about (turned d r)
turned-typed g about Forward r h = h
turned-typed g about Backward (term_by a b) (side, r, is, h, k) = (side, r, is, k, h)
turned-typed g about Backward (time_by x y) (h, k) = (k, h)
turned-typed g about Backward (index_by i j) (h, k) = (k, h)

module _ (g : Signature) where
  no_term-diff : (side : Side) (a b t : TermTree) → suits (of_side side) b ≡ true
      → suits (of_side side) t ≡ true → suits (of_side side) (term_replaced a b t) ≡ true
  no_term-diff Both a b t h e = refl
  no_term-diff Left a b t h e =
      ap not (term-no_diff a b t (not_true (holds_diff b) h) (not_true (holds_diff t) e))
  no_term-diff Right a b t h e =
      ap not (term-no_diff a b t (not_true (holds_diff b) h) (not_true (holds_diff t) e))

  side-stands : (side : Side) (r : Sort) (a b : TermTree) → may_stand g (of_side side) r a ≡ true
      → may_stand g (of_side side) r b ≡ true → (s : Sort) (t : TermTree)
      → may_stand g (of_side side) s t ≡ true → may_stand g (of_side side) s (term_replaced a b t)
      ≡ true
  side-stands side r a b h k s t e =
      stands g (of_side side) s (term_replaced a b t)
      (term-sort g r a b (sort-of g (of_side side) r a h) (sort-of g (of_side side) r b k) s t
      (sort-of g (of_side side) s t e))
      (no_term-diff side a b t (suits-of g (of_side side) r b k) (suits-of g (of_side side) s t e))

  pub stands-rewritten : (about : Subject) (r : Rewriting) → IsTyped g about r
      → (s : Sort) (t : TermTree)
      → may_stand g about s t ≡ true → may_stand g about s (rewritten r t) ≡ true
  stands-rewritten of_trace (term_by a b) (side, r, is, h, k) s t e = absurd (cc)
  stands-rewritten (of_side own) (term_by a b) (side, r, is, h, k) s t e =
      side-stands own r a b h k s t e
  stands-rewritten about (time_by x y) h s t e =
      stands-from g g about s s t (ts_replaced x y t) (time-sort g x y h.1 s t)
      (pure_kept (exchanging_times x y) (λ t. refl) t 0)
      (λ d. no_diff (exchanging_times x y) (λ m k. refl) (λ t u q. no_some u q) t 0 (λ q. d)) e
  stands-rewritten about (index_by i j) h s t e =
      stands-from g g about s s t (idx_replaced i j t) (index-sort g i j h.1 s t)
      (pure_kept (exchanging i j) (λ t. refl) t 0)
      (λ d. no_diff (exchanging i j) (λ m k. refl) (λ t u q. no_some u q) t 0 (λ q. d)) e

  -- what a hypothesis rewrites
  pub typed : (at : Site) (f : TermTree) (r : Rewriting) → Equates at f r
      → may_stand g (subject_of (body_of at.sequent)) Boolean f ≡ true
      → IsTyped g (subject_of (body_of at.sequent)) r
  typed at _ _ (messages u v) e = of_messages (subject_of (body_of at.sequent)) u v e
    where
      of_messages : (about : Subject) (u v : TermTree) → may_stand g about Boolean (equal u v)
          ≡ true
          → IsTyped g about (term_by u v)
      of_messages of_trace u v e =
          let z : false ≡ true = suits-of g of_trace Boolean (equal u v) e in
          absurd (cc)
      of_messages (of_side side) u v e = (
        side,
        Message,
        refl,
        first-stands g (of_side side) Boolean kind.equality u v e,
        second-stands g (of_side side) Boolean kind.equality u v e,
      )
  typed at _ _ (times t u) e =
      and_split (is_timestamp g [] t) (is_timestamp g [] u)
      (sort-of g (subject_of (body_of at.sequent)) Boolean (ts_eq t u) e)
  typed at _ _ (indices i j) e =
      and_split (is_index g [] i) (is_index g [] j)
      (sort-of g (subject_of (body_of at.sequent)) Boolean (idx_eq i j) e)
  typed at _ _ (formulas s a b l) e =
      let there =
      first-stands g (subject_of (body_of at.sequent)) Boolean kind.conjunction (implies a b)
      (implies b a) e in (
        s,
        Boolean,
        is_on (body_of at.sequent) l,
        first-stands g (subject_of (body_of at.sequent)) Boolean kind.implication a b there,
        second-stands g (subject_of (body_of at.sequent)) Boolean kind.implication a b there,
      )
    where
      is_on : (body : Body) → IsOn body s → subject_of body ≡ of_side s
      is_on (trace_body c) h = absurd h
      is_on (local_body own c) h = ap of_side h
      is_on (equiv_body known items) h = absurd h

-- ---- items of an equivalence

one_of_both : (p q p' q' : Bool) → (p ≡ true → p' ≡ true) → (q ≡ true → q' ≡ true)
    → (p || q) ≡ true → (p' || q') ≡ true
one_of_both true q p' q' f k e = ap (λ b. b || q') (f refl)
one_of_both false q true q' f k e = refl
one_of_both false q false q' f k e = k e

module _ (g : Signature) (r : Rewriting) (h : IsTyped g of_trace r) where
  both-sorts-kept : (s : Sort) (a b : TermTree) → has_both_sorts g s (item a b) ≡ true
      → has_both_sorts g s (item_rewritten r (item a b)) ≡ true
  both-sorts-kept s a b e =
      both_kept (may_stand g (of_side Left) s a) (may_stand g (of_side Right) s b)
      (may_stand g (of_side Left) s (rewritten r a)) _
      (stands-rewritten g (of_side Left) r (anywhere g r (of_side Left) h) s a)
      (stands-rewritten g (of_side Right) r (anywhere g r (of_side Right) h) s b) e

  pub items-kept : (is : List Item) → list_all (is_item g) is ≡ true
      → list_all (is_item g) (map (item_rewritten r) is) ≡ true
  items-kept [] e = refl
  items-kept (item a b ∷ is) e =
      both_kept (is_item g (item a b)) (list_all (is_item g) is)
      (is_item g (item_rewritten r (item a b))) _
      (one_of_both (has_both_sorts g Message (item a b)) (has_both_sorts g Boolean (item a b))
      (has_both_sorts g Message (item_rewritten r (item a b)))
      (has_both_sorts g Boolean (item_rewritten r (item a b)))
      (both-sorts-kept Message a b) (both-sorts-kept Boolean a b))
      (items-kept is) e
