-- Premises of a well-formed sequent are well-formed.
use Rattle.std.proofs.Common.{◌≡◌, refl, sym, ap, ◌∙◌, subst, ℕ, List, [], ◌∷◌, length, Option}
use Rattle.std.proofs.Common.{Some, None, Bool, true, ◌&&◌}
use Rattle.std.specs.Prelude.{slice_get}
use Rattle.std.specs.List.{list_all}
use Rattle.sq_base.specs.declared.sort.Sort.{Sort}
use Rattle.sq_base.specs.declared.sort.Sort.TheVariants.{Message, Boolean}
use Rattle.sq_term.specs.declared.term.Idx.{Idx}
use Rattle.sq_term.specs.declared.term.Macro.{Macro}
use Rattle.sq_term.specs.declared.term.Macro.TheVariants.{Input, Output, Cond, Exec, Frame}
use Rattle.sq_term.specs.declared.term.Side.{Side}
use Rattle.sq_term.specs.Formulas.{negation}
use Rattle.sq_term.specs.Lists.{Member, here, there, Each}
use Rattle.sq_term.specs.Pure.{is_binder_sort}
use Rattle.sq_term.specs.Syntax.{TsTree, action, TermTree, happens}
use Rattle.sq_term.specs.Systems.{SystemTree, ActionTree, action_at}
use Rattle.sq_term.proofs.BoolTests.{and_split, and_both}
use Rattle.sq_term.proofs.Members.{each_single, each_pair}
use Rattle.sq_typing.specs.Functions.{are_functions}
use Rattle.sq_typing.specs.Standing.{Subject, of_side, may_stand}
use Rattle.sq_typing.specs.Typing.{Signature, is_timestamp, macro_sort, has_sort}
use Rattle.sq_system.specs.Scopes.{signature_of, subject_of}
use Rattle.sq_system.specs.Sequents.{Body, trace_body, local_body, equiv_body, SequentTree, sequent}
use Rattle.sq_system.specs.Sequents.{vars_of, body_of}
use Rattle.sq_system.specs.Sizes.{fits, all_fit}
use Rattle.sq_system.specs.Statements.{StmtTree}
use Rattle.sq_system.specs.WellFormed.{is_sorted, is_sequent_of, is_well_formed_for, IsEnvironment}
use Rattle.sq_system.proofs.EnvLaws.{environment_parts}
use Rattle.sq_step.specs.declared.step.Step.{Step}
use Rattle.sq_step.specs.declared.step.TsArg.{TsArg}
use Rattle.sq_sequent.specs.Laws.{IsWellFormed}
use Rattle.sq_sequent.specs.Premises.{asking, assuming}
use Rattle.sq_sequent.specs.Rows.{IsOn, IsLocal}
use Rattle.sq_sequent.specs.Site.{Site}
use Rattle.sq_sequent.specs.Standing.{signature_at}
use Rattle.sq_sequent.proofs.Preserved.{vars-assuming, signature-is}
use Rattle.sq_sequent.proofs.Suited.{goal-suited, assuming-sorted, asking-sorted}
use Rattle.sq_rules_trace.specs.Laws.{TimeRowsKeepWellFormed}
use Rattle.sq_rules_trace.specs.Rows.{system_at, IsTime, TimeRow}
use Rattle.sq_rules_trace.specs.Induction.{earlier}
use Rattle.sq_rules_trace.specs.Unfolding.{has_value, initial, undefined, body_at, Unfolds}
use Rattle.sq_rules_trace.proofs.FactsMayStand.{functions, fact_stands}
use Rattle.sq_rules_trace.proofs.FactsStand.{its_indices, there_is, within}
use Rattle.sq_rules_trace.proofs.MacrosStand.{earlier_stands, own, body_stands, value_stands}
use Rattle.sq_rules_trace.proofs.MacrosStand.{initial_stands, undefined_stands, happens_stands}
use Rattle.sq_rules_trace.proofs.MacrosStand.{nowhere_stands, behind_stands, input_stands}
use Rattle.sq_rules_trace.proofs.MacrosStand.{exec_stands, frame_stands}
use Rattle.sq_rules_logic.proofs.RowSound.{sorted_at}
use Rattle.sq_rules_trace.proofs.Sorted.{time_sort}
use Rattle.sq_rules_trace.proofs.Systems.{goal_sorted, body_sorts}

-- ---- over the same variables

vars-asking : (s : SequentTree) (t : TermTree) → vars_of (asking s t) ≡ vars_of s
unfolding asking
vars-asking (sequent vars hyps body) t = refl

module _ (at : Site) (p : SequentTree) (over : vars_of p ≡ vars_of at.sequent)
    (sorted : is_sorted (signature_at at) p ≡ true) (fit : fits p ≡ true) where
  of_system : (st : StmtTree) (o : Option SystemTree) → slice_get at.env.stmts at.goal ≡ Some st
      → slice_get at.env.systems st.system ≡ o
      → is_sequent_of at.env o (length st.schemas) at.sequent ≡ true
      → is_sequent_of at.env o (length st.schemas) p ≡ true
  of_system st None e q h = absurd (cc)
  of_system st (Some system) e q h =
      let v = and_split (list_all is_binder_sort (vars_of at.sequent)) _ h in
      let same : signature_of at.env system (length st.schemas) (vars_of p) ≡ signature_at at =
      ap (signature_of at.env system (length st.schemas)) over
      ∙ signature-is at st system (vars_of at.sequent) e q in
      and_both (list_all is_binder_sort (vars_of p)) _ (ap (list_all is_binder_sort) over ∙ v.0)
      (and_both
      (is_sorted (signature_of at.env system (length st.schemas) (vars_of p)) p) (fits p)
      (subst (λ g. is_sorted g p ≡ true) (sym same) sorted) fit)

  of_statement : (o : Option StmtTree) → slice_get at.env.stmts at.goal ≡ o
      → is_well_formed_for at.env o at.sequent ≡ true → is_well_formed_for at.env o p ≡ true
  of_statement None e h = absurd (cc)
  of_statement (Some st) e h = of_system st (slice_get at.env.systems st.system) e refl h

  formed : IsWellFormed at at.sequent → IsWellFormed at p
  formed h = of_statement (slice_get at.env.stmts at.goal) refl h

-- ---- the premises of a row

side_of : (b : Body) (side : Side) → IsOn b side → subject_of b ≡ of_side side
side_of (trace_body g) side on = absurd on
side_of (local_body own g) side on = ap of_side on
side_of (equiv_body known items) side on = absurd on

module _ (at : Site) (kept : IsEnvironment at.env) (whole : IsWellFormed at at.sequent) where
  abbrev s : SequentTree
  s = at.sequent

  abbrev g : Signature
  g = signature_at at

  abbrev ok : are_functions g.funs ≡ true
  ok = functions at kept

  abbrev system : SystemTree
  system = system_at at

  abbrev Suits : TermTree → Type 0
  Suits F = may_stand g (subject_of (body_of s)) Boolean F ≡ true

  -- one more hypothesis, and another goal, that may stand
  assumed : (F : TermTree) → Suits F → fits (assuming s F) ≡ true → IsWellFormed at (assuming s F)
  assumed F h fit =
      formed at (assuming s F) (vars-assuming s F)
      (assuming-sorted g s F (sorted_at at whole) h) fit whole

  asked : (F : TermTree) → Suits F → fits (asking s F) ≡ true → IsWellFormed at (asking s F)
  asked F h fit =
      formed at (asking s F) (vars-asking s F) (asking-sorted g s F (sorted_at at whole) h) fit
      whole

  on_side : (side : Side) (F : TermTree) → IsLocal at side
      → may_stand g (of_side side) Boolean F ≡ true → Suits F
  on_side side F on h =
      subst (λ who. may_stand g who Boolean F ≡ true) (sym (side_of (body_of s) side on)) h

  one_fits : (p : SequentTree) → all_fit (p ∷ []) ≡ true → fits p ≡ true
  one_fits p h = (and_split (fits p) true h).0

  two_fit : (p q : SequentTree) → all_fit (p ∷ q ∷ []) ≡ true
      → (fits p ≡ true) × (fits q ≡ true)
  two_fit p q h =
      let k = and_split (fits p) (fits q && true) h in
      (k.0, (and_split (fits q) true k.1).0)

  -- what unfolds
  module _ (side : Side) where
    abbrev Stand : Sort → TermTree → Type 0
    Stand x F = may_stand g (of_side side) x F ≡ true

    module _ (n : ℕ) (is : List Idx) (h : is_timestamp g [] (action n is) ≡ true) where
      abbrev who : Subject
      who = subject_of (body_of s)

      body_is_sorted : (has_sort (own g is (its_indices g ok who n is h) (action_at system n).arity
          (sym (there_is g ok who system refl n is h).1)) [] Boolean (action_at system n).cond
          ≡ true)
          × (has_sort (own g is (its_indices g ok who n is h) (action_at system n).arity
          (sym (there_is g ok who system refl n is h).1)) [] Message (action_at system n).output
          ≡ true)
      body_is_sorted =
          body_sorts at.env system n (goal_sorted at.env at.goal kept.well_formed)
          (within g ok who system refl system.actions n (action_at system n)
          (there_is g ok who system refl n is h).0).0

      output_stands : Stand Message (body_at side is (action_at system n).output)
      output_stands =
          body_stands g is (its_indices g ok who n is h) (action_at system n).arity
          (sym (there_is g ok who system refl n is h).1) side Message (action_at system n).output
          body_is_sorted.1

      cond_stands : Stand Boolean (body_at side is (action_at system n).cond)
      cond_stands =
          body_stands g is (its_indices g ok who n is h) (action_at system n).arity
          (sym (there_is g ok who system refl n is h).1) side Boolean (action_at system n).cond
          body_is_sorted.0

    unfolded_stand : (m : Macro) (t : TsTree) (c u : TermTree) → is_timestamp g [] t ≡ true
        → Unfolds system side m t c u → Stand Boolean c × Stand (macro_sort m) u
    unfolded_stand _ _ _ _ h (Unfolds.output n is) =
        (happens_stands g ok side (action n is) h, output_stands n is h)
    unfolded_stand _ _ _ _ h (Unfolds.cond n is) =
        (happens_stands g ok side (action n is) h, cond_stands n is h)
    unfolded_stand _ _ _ _ h (Unfolds.input t d) =
        (behind_stands g ok side t h, input_stands g ok side t h)
    unfolded_stand _ _ _ _ h (Unfolds.exec t d) =
        (behind_stands g ok side t h, exec_stands g ok side t h)
    unfolded_stand _ _ _ _ h (Unfolds.frame t d) =
        (behind_stands g ok side t h, frame_stands g ok side t h)

  premises_formed : (step : Step) (ps : List SequentTree) → TimeRow at step ps
      → all_fit ps ≡ true → Each (IsWellFormed at) ps
  premises_formed _ _ (TimeRow.fact step F known) fit =
      each_single (assuming s F) (IsWellFormed at)
      (assumed F (fact_stands at kept step F known).so (one_fits (assuming s F) fit))
  premises_formed _ _ (TimeRow.tind v G asks sort unheld_by) fit =
      each_single (assuming s (earlier v G)) (IsWellFormed at)
      (assumed (earlier v G)
      (earlier_stands g ok v sort (subject_of (body_of s)) G
      (goal-suited g s G (sorted_at at whole) asks))
      (one_fits (assuming s (earlier v G)) fit))
  premises_formed _ _ (TimeRow.x_init m x side on e) fit =
      each_single (assuming s (initial m)) (IsWellFormed at)
      (assumed (initial m) (on_side side (initial m) on (initial_stands g ok side m))
      (one_fits (assuming s (initial m)) fit))
  premises_formed _ _ (TimeRow.x m x side t c u on e k) fit =
      let r = unfolded_stand side m t c u (time_sort at x t e) k in
      let f = two_fit (asking s c) (assuming s (has_value m t u)) fit in
      each_pair (asking s c) (assuming s (has_value m t u)) (IsWellFormed at)
      (asked c (on_side side c on r.0) f.0)
      (assumed (has_value m t u)
      (on_side side (has_value m t u) on
      (value_stands g ok side m t u (time_sort at x t e) r.1)) f.1)
  premises_formed _ _ (TimeRow.xu m x side t on e) fit =
      let h = time_sort at x t e in
      let f = two_fit (asking s (negation (happens t))) (assuming s (undefined m t)) fit in
      each_pair (asking s (negation (happens t))) (assuming s (undefined m t)) (IsWellFormed at)
      (asked (negation (happens t))
      (on_side side (negation (happens t)) on (nowhere_stands g ok side t h)) f.0)
      (assumed (undefined m t)
      (on_side side (undefined m t) on (undefined_stands g ok side m t h)) f.1)

pub keep_formed : TimeRowsKeepWellFormed
keep_formed at step ps kept whole row fit = premises_formed at kept whole step ps row fit
