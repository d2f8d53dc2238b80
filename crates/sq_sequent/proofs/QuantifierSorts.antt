-- Over one more variable a well-sorted sequent stays so, and the body of a quantifier with that
-- variable may stand in it.
use Rattle.std.proofs.Common.{◌≡◌, refl, subst, List, [], ◌∷◌, ◌++◌, length, Bool, true, false}
use Rattle.std.proofs.Common.{◌&&◌, ◌||◌}
use Rattle.std.specs.List.{list_all}
use Rattle.sq_base.specs.declared.sort.Sort.{Sort}
use Rattle.sq_base.specs.declared.sort.Sort.TheVariants.{Message, Boolean, Index, Timestamp}
use Rattle.sq_term.specs.declared.term.Side.TheVariants.{Left, Right}
use Rattle.sq_term.specs.Arguments.{ArgTree}
use Rattle.sq_term.specs.Pure.{is_binder_sort, is_pure}
use Rattle.sq_term.specs.Syntax.{TermTree, all, some}
use Rattle.sq_term.specs.TreeEquality.{is_same_sort}
use Rattle.sq_term.proofs.BoolTests.{and_split, and_both}
use Rattle.sq_typing.specs.Diffs.{holds_diff}
use Rattle.sq_typing.specs.Standing.{Subject, of_trace, of_side, may_stand}
use Rattle.sq_typing.specs.Typing.{Signature, has_sort_at, has_sort}
use Rattle.sq_typing.proofs.Formulas.{sort-of, stands-from}
use Rattle.sq_system.specs.Sequents.{Item, item, Body, trace_body, local_body, equiv_body}
use Rattle.sq_system.specs.Sequents.{SequentTree, sequent, vars_of}
use Rattle.sq_system.specs.Scopes.{subject_of}
use Rattle.sq_system.specs.WellFormed.{has_both_sorts, is_item, is_sorted_body}
use Rattle.sq_system.specs.WellFormed.{is_sorted}
use Rattle.sq_subst.specs.Substitution.{opened}
use Rattle.sq_sequent.specs.Premises.{variable, with_variable}
use Rattle.sq_formula.proofs.KeptSorts.{with_variables, both_kept}
use Rattle.sq_formula.proofs.Opened.{Keep, sort_at-more, sort_at-last, widened, is_value}
use Rattle.sq_formula.proofs.Opened.{opened_sort, opened_pure, opened_no_diff}
use Rattle.sq_sequent.proofs.Suited.{suited, all-push, hyps-sorted, body-sorted}

all_kept : {A : Type 0} (p q : A → Bool) → ((x : A) → p x ≡ true → q x ≡ true) → (xs : List A)
    → list_all p xs ≡ true → list_all q xs ≡ true
all_kept p q f [] h = refl
all_kept p q f (x ∷ xs) h =
    both_kept (p x) (list_all p xs) (q x) (list_all q xs) (f x) (all_kept p q f xs) h

either_kept : (a b c d : Bool) → (a ≡ true → c ≡ true) → (b ≡ true → d ≡ true)
    → (a || b) ≡ true → (c || d) ≡ true
either_kept true b c d f k e = let z : c ≡ true = f refl in cc
either_kept false b true d f k e = refl
either_kept false b false d f k e = k e

-- the test of a quantifier's sort and body
quantified_parts : (g : Signature) (x : Sort) (F : TermTree)
    → (is_same_sort Boolean Boolean && (is_binder_sort x && has_sort g (x ∷ []) Boolean F)) ≡ true
    → (is_binder_sort x ≡ true) × (has_sort g (x ∷ []) Boolean F ≡ true)
quantified_parts g x F e =
    and_split (is_binder_sort x) (has_sort g (x ∷ []) Boolean F)
    (and_split (is_same_sort Boolean Boolean) _ e).1

abbrev pub wider : Signature → Sort → Signature
wider g x = with_variables g g.schemas (g.vars ++ x ∷ [])

module _ (g : Signature) (x : Sort) where
  keep : Keep g.vars (g.vars ++ x ∷ [])
  keep k s e = sort_at-more g.vars (x ∷ []) k s e

  pub stands-widened : (about : Subject) (s : Sort) (t : TermTree) → may_stand g about s t ≡ true
      → may_stand (wider g x) about s t ≡ true
  stands-widened about s t e =
      stands-from g (wider g x) about s s t t (widened g (g.vars ++ x ∷ []) keep s t) (λ p. p)
      (λ d. d) e

  item-widened : (i : Item) → is_item g i ≡ true → is_item (wider g x) i ≡ true
  item-widened (item a b) e =
      either_kept (has_both_sorts g Message (item a b)) (has_both_sorts g Boolean (item a b))
      (has_both_sorts (wider g x) Message (item a b))
      (has_both_sorts (wider g x) Boolean (item a b))
      (sides Message) (sides Boolean) e
    where
      sides : (s : Sort) → has_both_sorts g s (item a b) ≡ true
          → has_both_sorts (wider g x) s (item a b) ≡ true
      sides s h =
          both_kept (may_stand g (of_side Left) s a) (may_stand g (of_side Right) s b)
          (may_stand (wider g x) (of_side Left) s a) (may_stand (wider g x) (of_side Right) s b)
          (stands-widened (of_side Left) s a) (stands-widened (of_side Right) s b) h

  items-widened : (is : List Item) → list_all (is_item g) is ≡ true
      → list_all (is_item (wider g x)) is ≡ true
  items-widened is e = all_kept (is_item g) (is_item (wider g x)) item-widened is e

  body-widened : (body : Body) → is_sorted_body g body ≡ true
      → is_sorted_body (wider g x) body ≡ true
  body-widened (trace_body c) e = stands-widened of_trace Boolean c e
  body-widened (local_body side c) e = stands-widened (of_side side) Boolean c e
  body-widened (equiv_body known items) e =
      both_kept (list_all (list_all (is_item g)) known) (list_all (is_item g) items)
      (list_all (list_all (is_item (wider g x))) known) (list_all (is_item (wider g x)) items)
      (all_kept (list_all (is_item g)) (list_all (is_item (wider g x))) items-widened known)
      (items-widened items) e

  pub sequent-widened : (s : SequentTree) → is_sorted g s ≡ true → is_sorted (wider g x) s ≡ true
  sequent-widened (sequent vars hyps body) h =
      and_both (list_all (suited (wider g x) (sequent vars hyps body)) hyps)
      (is_sorted_body (wider g x) body)
      (all_kept (suited g (sequent vars hyps body)) (suited (wider g x) (sequent vars hyps body))
      (stands-widened (subject_of body) Boolean) hyps (hyps-sorted g (sequent vars hyps body) h))
      (body-widened body (body-sorted g (sequent vars hyps body) h))

  variable_is_value : (y : Sort) → is_binder_sort y ≡ true → y ≡ x
      → is_value (wider g x) y (variable y (length g.vars)) ≡ true
  variable_is_value Index b q =
      subst (λ z. has_sort_at (g.vars ++ z ∷ []) (length g.vars) Index ≡ true) q
      (sort_at-last g.vars Index)
  variable_is_value Timestamp b q =
      subst (λ z. has_sort_at (g.vars ++ z ∷ []) (length g.vars) Timestamp ≡ true) q
      (sort_at-last g.vars Timestamp)
  variable_is_value Message b q = let z : false ≡ true = b in absurd (cc)
  variable_is_value Boolean b q = let z : false ≡ true = b in absurd (cc)

  abbrev new : TermTree → TermTree
  new F = opened (variable x (length g.vars)) F

  body_formula : (F : TermTree)
      → (is_same_sort Boolean Boolean && (is_binder_sort x && has_sort g (x ∷ []) Boolean F)) ≡ true
      → has_sort (wider g x) [] Boolean (new F) ≡ true
  body_formula F e =
      let p = quantified_parts g x F e in
      opened_sort g (g.vars ++ x ∷ []) keep x (variable x (length g.vars))
      (variable_is_value x p.0 refl) Boolean F p.1

  body_pure : (F : TermTree) → (is_binder_sort x && is_pure F) ≡ true → is_pure (new F) ≡ true
  body_pure F e = opened_pure (variable x (length g.vars)) F
      (and_split (is_binder_sort x) (is_pure F) e).1

  body_diff : (F : TermTree) → holds_diff F ≡ false → holds_diff (new F) ≡ false
  body_diff F e = opened_no_diff (variable x (length g.vars)) F e

  pub all-new : (about : Subject) (F : TermTree) → may_stand g about Boolean (all x F) ≡ true
      → may_stand (wider g x) about Boolean (new F) ≡ true
  all-new about F e =
      stands-from g (wider g x) about Boolean Boolean (all x F) (new F) (body_formula F)
      (body_pure F) (body_diff F) e

  pub some-new : (about : Subject) (F : TermTree) → may_stand g about Boolean (some x F) ≡ true
      → may_stand (wider g x) about Boolean (new F) ≡ true
  some-new about F e =
      stands-from g (wider g x) about Boolean Boolean (some x F) (new F) (body_formula F)
      (body_pure F) (body_diff F) e

  pub binders-all : (about : Subject) (F : TermTree) → may_stand g about Boolean (all x F) ≡ true
      → list_all is_binder_sort g.vars ≡ true → list_all is_binder_sort (g.vars ++ x ∷ []) ≡ true
  binders-all about F e b =
      all-push is_binder_sort g.vars x b
      (quantified_parts g x F (sort-of g about Boolean (all x F) e)).0

  pub binders-some : (about : Subject) (F : TermTree) → may_stand g about Boolean (some x F) ≡ true
      → list_all is_binder_sort g.vars ≡ true → list_all is_binder_sort (g.vars ++ x ∷ []) ≡ true
  binders-some about F e b =
      all-push is_binder_sort g.vars x b
      (quantified_parts g x F (sort-of g about Boolean (some x F) e)).0

pub with_variable-sorted : (g : Signature) (x : Sort) (s : SequentTree) → is_sorted g s ≡ true
    → is_sorted g (with_variable x s) ≡ true
unfolding with_variable
with_variable-sorted g x (sequent vars hyps body) h = h

pub with_variable-vars : (x : Sort) (s : SequentTree)
    → vars_of (with_variable x s) ≡ vars_of s ++ x ∷ []
unfolding with_variable
with_variable-vars x (sequent vars hyps body) = refl

-- ---- with a value for the variable

module _ (g : Signature) (x : Sort) (w : ArgTree) (fit : is_value g x w ≡ true) where
  value_formula : (F : TermTree)
      → (is_same_sort Boolean Boolean && (is_binder_sort x && has_sort g (x ∷ []) Boolean F)) ≡ true
      → has_sort g [] Boolean (opened w F) ≡ true
  value_formula F e =
      opened_sort g g.vars (λ k s q. q) x w fit Boolean F (quantified_parts g x F e).1

  value_pure : (F : TermTree) → (is_binder_sort x && is_pure F) ≡ true → is_pure (opened w F) ≡ true
  value_pure F e = opened_pure w F (and_split (is_binder_sort x) (is_pure F) e).1

  value_diff : (F : TermTree) → holds_diff F ≡ false → holds_diff (opened w F) ≡ false
  value_diff F e = opened_no_diff w F e

  pub all-value : (about : Subject) (F : TermTree) → may_stand g about Boolean (all x F) ≡ true
      → may_stand g about Boolean (opened w F) ≡ true
  all-value about F e =
      stands-from g g about Boolean Boolean (all x F) (opened w F) (value_formula F) (value_pure F)
      (value_diff F) e

  pub some-value : (about : Subject) (F : TermTree) → may_stand g about Boolean (some x F) ≡ true
      → may_stand g about Boolean (opened w F) ≡ true
  some-value about F e =
      stands-from g g about Boolean Boolean (some x F) (opened w F) (value_formula F) (value_pure F)
      (value_diff F) e
