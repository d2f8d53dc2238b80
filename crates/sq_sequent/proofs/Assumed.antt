-- A formula may be assumed exactly where it may stand in the sequent.
use Rattle.std.proofs.Common.{◌≡◌, ◌↔◌, refl, sym, ap, subst, ◌∙◌, List, [], ◌∷◌, ◌++◌, Option}
use Rattle.std.proofs.Common.{Some, None, Bool, true, ◌&&◌, length}
use Rattle.std.specs.Prelude.{slice_get}
use Rattle.std.specs.List.{list_all}
use Rattle.std.proofs.lemmas.List.Folds.{list_all-append}
use Rattle.sq_base.specs.declared.sort.Sort.TheVariants.{Boolean}
use Rattle.sq_term.specs.Pure.{is_binder_sort}
use Rattle.sq_term.specs.Syntax.{TermTree}
use Rattle.sq_term.specs.Systems.{SystemTree}
use Rattle.sq_term.proofs.BoolTests.{and_split, and_both}
use Rattle.sq_typing.specs.Typing.{Signature}
use Rattle.sq_system.specs.Sequents.{SequentTree, sequent, vars_of}
use Rattle.sq_system.specs.Sizes.{fits}
use Rattle.sq_system.specs.Statements.{StmtTree}
use Rattle.sq_system.specs.Scopes.{signature_of, subject_of}
use Rattle.sq_system.specs.WellFormed.{is_sorted_body, is_sorted}
use Rattle.sq_system.specs.WellFormed.{is_sequent_of, is_well_formed_for}
use Rattle.sq_typing.specs.Standing as typing
use Rattle.sq_sequent.specs.Laws.{MayBeAssumed}
use Rattle.sq_sequent.specs.Premises.{assuming}
use Rattle.sq_sequent.specs.Site.{Site}
use Rattle.sq_sequent.specs.Standing.{signature_at, may_stand}
use Rattle.sq_sequent.proofs.Preserved.{vars-assuming, signature-is}
use Rattle.sq_sequent.proofs.Suited.{suited, assuming-sorted}

last : {A : Type 0} (p : A → Bool) (xs : List A) (x : A) → list_all p (xs ++ x ∷ []) ≡ true
    → p x ≡ true
last p xs x h =
    (and_split (p x) true
    (and_split (list_all p xs) (p x && true) (sym (list_all-append p xs (x ∷ [])) ∙ h)).1).0

last-suited : (g : Signature) (s : SequentTree) (f : TermTree) → is_sorted g (assuming s f) ≡ true
    → suited g s f ≡ true
unfolding assuming
last-suited g (sequent vars hyps body) f h =
    last (typing.may_stand g (subject_of body) Boolean) hyps f
    (and_split (list_all (typing.may_stand g (subject_of body) Boolean) (hyps ++ f ∷ []))
    (is_sorted_body g body) h).0

module _ (at : Site) (f : TermTree) (fit : fits (assuming at.sequent f) ≡ true) where
  of-system : (st : StmtTree) (o : Option SystemTree) → slice_get at.env.stmts at.goal ≡ Some st
      → slice_get at.env.systems st.system ≡ o
      → is_sequent_of at.env o (length st.schemas) at.sequent ≡ true
      → (may_stand at Boolean f ≡ true)
      ↔ (is_sequent_of at.env o (length st.schemas) (assuming at.sequent f) ≡ true)
  unfolding may_stand
  of-system st None e q h = absurd (cc)
  of-system st (Some system) e q h =
      let over : vars_of (assuming at.sequent f) ≡ vars_of at.sequent =
      vars-assuming at.sequent f in
      let v = and_split (list_all is_binder_sort (vars_of at.sequent)) _ h in
      let w = and_split
      (is_sorted
      (signature_of at.env system (length st.schemas) (vars_of at.sequent)) at.sequent)
      (fits at.sequent) v.1 in
      let sorted : is_sorted (signature_at at) at.sequent ≡ true =
      subst (λ g. is_sorted g at.sequent ≡ true)
      (signature-is at st system (vars_of at.sequent) e q) w.0 in
      let same : signature_of at.env system (length st.schemas) (vars_of (assuming at.sequent f))
      ≡ signature_at at =
      ap (signature_of at.env system (length st.schemas)) over
      ∙ signature-is at st system (vars_of at.sequent) e q in (
        λ m.
            and_both (list_all is_binder_sort (vars_of (assuming at.sequent f))) _
            (ap (list_all is_binder_sort) over ∙ v.0)
            (and_both
            (is_sorted
            (signature_of at.env system (length st.schemas) (vars_of (assuming at.sequent f)))
            (assuming at.sequent f))
            (fits (assuming at.sequent f))
            (subst (λ g. is_sorted g (assuming at.sequent f) ≡ true) (sym same)
            (assuming-sorted (signature_at at) at.sequent f sorted m)) fit),
        λ k.
            let b = and_split (list_all is_binder_sort (vars_of (assuming at.sequent f))) _ k in
            let c = and_split
            (is_sorted
            (signature_of at.env system (length st.schemas) (vars_of (assuming at.sequent f)))
            (assuming at.sequent f))
            (fits (assuming at.sequent f)) b.1 in
            last-suited (signature_at at) at.sequent f
            (subst (λ g. is_sorted g (assuming at.sequent f) ≡ true) same c.0),
      )

  of-statement : (o : Option StmtTree) → slice_get at.env.stmts at.goal ≡ o
      → is_well_formed_for at.env o at.sequent ≡ true
      → (may_stand at Boolean f ≡ true) ↔
      (is_well_formed_for at.env o (assuming at.sequent f) ≡ true)
  of-statement None e h = absurd (cc)
  of-statement (Some st) e h = of-system st (slice_get at.env.systems st.system) e refl h

pub may_be_assumed : (at : Site) (f : TermTree) → MayBeAssumed at f
may_be_assumed at f h fit = of-statement at f fit (slice_get at.env.stmts at.goal) refl h
