-- The premises that are computed for a step are those of its row.
use Rattle.std.proofs.Common.{◌≡◌, ◌≢◌, ◌==◌, ℕ, refl, sym, ap, subst, ◌∙◌, List, [], ◌∷◌, Option}
use Rattle.std.proofs.Common.{Some, None, Bool, true, false, ◌&&◌, map, length}
use Rattle.std.specs.Prelude.{nat_lt, slice_get, slice_set, if◌then◌else◌, option_map}
use Rattle.std.specs.Cmp.Lexicographic.{pointwise, pointwise_decides}
use Rattle.std.proofs.lemmas.Bool.Decides.{Decides-eqb, Decides-ltb}
use Rattle.sq_base.specs.declared.sort.Sort.{Sort}
use Rattle.sq_base.specs.declared.sort.Sort.TheVariants.{Message, Boolean}
use Rattle.sq_term.specs.Arguments.{ArgTree}
use Rattle.sq_term.specs.declared.term.Idx.{Idx}
use Rattle.sq_term.specs.declared.term.Side.{Side}
use Rattle.sq_term.specs.declared.term.Side.TheVariants as side
use Rattle.sq_term.specs.Formulas.{truth, falsity, negation, both, either, implies, equal}
use Rattle.sq_term.specs.Formulas.{equivalent}
use Rattle.sq_term.specs.Measure.{count_terms}
use Rattle.sq_term.specs.Symbols.{Kind, same_kind}
use Rattle.sq_term.specs.Syntax.{TsTree, TermTree, fun, ts_eq, idx_eq, all, some, TermTrees}
use Rattle.sq_term.specs.TreeEquality.{is_same_tree}
use Rattle.sq_term.specs.TsEquality.{is_same_idx, is_same_idx-decides, is_same_ts_tree-decides}
use Rattle.sq_term.proofs.BoolTests.{and_split, and_both}
use Rattle.sq_term.proofs.KindNumbers.{same_kind-decides}
use Rattle.sq_term.proofs.SameTrees.{is_same_tree-decides}
use Rattle.sq_subst.specs.Substitution.{opened}
use Rattle.sq_system.specs.Sequents.{Body, trace_body, local_body, equiv_body, SequentTree, trace}
use Rattle.sq_system.specs.Sequents.{local, equiv, vars_of, hyps_of, body_of}
use Rattle.sq_system.specs.Statements.{StmtTree}
use Rattle.sq_system.specs.Usable.{usable, states_a_formula}
use Rattle.sq_step.specs.declared.step.Dir.{Dir}
use Rattle.sq_step.specs.declared.step.Step.{Step}
use Rattle.sq_step.specs.declared.step.Step.TheVariants as step
use Rattle.sq_step.specs.declared.step.Target.{Target}
use Rattle.sq_step.specs.declared.step.Target.TheVariants as target
use Rattle.sq_step.specs.declared.step.TermArg.{TermArg}
use Rattle.sq_step.specs.declared.step.ValArg.{ValArg}
use Rattle.sq_formula.specs.FactSearch.{fact_of, fact_sort}
use Rattle.sq_sequent.specs.Facts.{standing_fact, assumed_fact, fact_on}
use Rattle.sq_sequent.specs.Laws.{RowsAgree}
use Rattle.sq_sequent.specs.Logic.{closing_row, hyp_row, true_row, absurd_row, impi_row, noti_row}
use Rattle.sq_sequent.specs.Logic.{alli_row, andi_row, orl_row, orr_row, exi_row, asked_at}
use Rattle.sq_sequent.specs.Logic.{ande_row, ore_row, impe_row, note_row, alle_row, assumed_at}
use Rattle.sq_sequent.specs.Logic.{exe_row, cut_row, em_row, drop_row, proj_row, trace_row}
use Rattle.sq_sequent.specs.Logic.{is_reflexive, refl_row, sym_row, trans_row}
use Rattle.sq_sequent.specs.Premises.{arguments_asked}
use Rattle.sq_sequent.specs.Logic.{applications_row, arg_row, logic_row}
use Rattle.sq_sequent.specs.Places.{term_at}
use Rattle.sq_sequent.specs.Premises.{asking, assuming, with_hyps, with_variable, new_variable}
use Rattle.sq_sequent.specs.Premises.{without, pure_ones, pure_or_false}
use Rattle.sq_sequent.specs.Rewriting.{Rewriting, term_by, time_by, index_by}
use Rattle.sq_sequent.specs.RewriteRow.{by_equation}
use Rattle.sq_sequent.specs.RewriteRow.{by_equivalence, equivalence_in, first_rewriting, read_in}
use Rattle.sq_sequent.specs.Rewriting.{turned, rewritten, item_rewritten}
use Rattle.sq_sequent.specs.RewriteRow.{rewriting_of}
use Rattle.sq_sequent.specs.RewriteRow.{goal_rewritten, hyp_rewritten, items_rewritten}
use Rattle.sq_sequent.specs.RewriteRow.{rewriting_at}
use Rattle.sq_sequent.specs.RewriteRow.{rew_row}
use Rattle.sq_sequent.specs.Rows as row
use Rattle.sq_formula.specs.Facts.{HasFact}
use Rattle.sq_sequent.specs.Rows.{Row, Rewritten, Equates, IsOn, IsLocal, Offers}
use Rattle.sq_sequent.specs.Rows.{AreMessages, AsksItself, AsksOfTrace}
use Rattle.sq_sequent.specs.Sides.{on_side}
use Rattle.sq_sequent.specs.Site.{Site}
use Rattle.sq_sequent.specs.Standing.{where_standing, term_in, value_in, may_stand}
use Rattle.sq_sequent.specs.Uses.{offered_by, offered, with_first, messages_in}
use Rattle.sq_sequent.specs.Uses.{used_with, use_on, use_row}
use Rattle.sq_sequent.specs.Sides.{instance_on}
use Rattle.sq_sequent.specs.Views.{goal_of, local_goal_of, hyp_of}
use Rattle.sq_formula.proofs.FactShapes.{fact-is, fact-shape}

-- ---- from the computed premises to the row

module _ (at : Site) where
  impi-back : (o : Option TermTree) (ps : List SequentTree) → goal_of at.sequent ≡ o
      → impi_row at.sequent o ≡ Some ps → Row at step.Impi ps
  unfolding impi_row
  impi-back (Some (implies a b)) ps q e =
      let z : ps ≡ assuming (asking at.sequent b) a ∷ [] = cc in
      subst (Row at step.Impi) (sym z) (row.impi a b q)
  impi-back _ ps q e = absurd (cc)

  noti-back : (o : Option TermTree) (ps : List SequentTree) → goal_of at.sequent ≡ o
      → noti_row at.sequent o ≡ Some ps → Row at step.Noti ps
  unfolding noti_row
  noti-back (Some (negation a)) ps q e =
      let z : ps ≡ assuming (asking at.sequent falsity) a ∷ [] = cc in
      subst (Row at step.Noti) (sym z) (row.noti a q)
  noti-back _ ps q e = absurd (cc)

  alli-back : (o : Option TermTree) (ps : List SequentTree) → goal_of at.sequent ≡ o
      → alli_row at.sequent o ≡ Some ps → Row at step.Alli ps
  unfolding alli_row
  alli-back (Some (all x F)) ps q e =
      let z : ps ≡ with_variable x (asking at.sequent (opened (new_variable x at.sequent) F)) ∷ [] =
      cc in
      subst (Row at step.Alli) (sym z) (row.alli x F q)
  alli-back _ ps q e = absurd (cc)

  andi-back : (o : Option TermTree) (ps : List SequentTree) → goal_of at.sequent ≡ o
      → andi_row at.sequent o ≡ Some ps → Row at step.Andi ps
  unfolding andi_row
  andi-back (Some (both a b)) ps q e =
      let z : ps ≡ asking at.sequent a ∷ asking at.sequent b ∷ [] = cc in
      subst (Row at step.Andi) (sym z) (row.andi a b q)
  andi-back _ ps q e = absurd (cc)

  orl-back : (o : Option TermTree) (ps : List SequentTree) → goal_of at.sequent ≡ o
      → orl_row at.sequent o ≡ Some ps → Row at step.Orl ps
  unfolding orl_row
  orl-back (Some (either a b)) ps q e =
      let z : ps ≡ asking at.sequent a ∷ [] = cc in
      subst (Row at step.Orl) (sym z) (row.orl a b q)
  orl-back _ ps q e = absurd (cc)

  orr-back : (o : Option TermTree) (ps : List SequentTree) → goal_of at.sequent ≡ o
      → orr_row at.sequent o ≡ Some ps → Row at step.Orr ps
  unfolding orr_row
  orr-back (Some (either a b)) ps q e =
      let z : ps ≡ asking at.sequent b ∷ [] = cc in
      subst (Row at step.Orr) (sym z) (row.orr a b q)
  orr-back _ ps q e = absurd (cc)

  ande-back : (h : ℕ) (o : Option TermTree) (ps : List SequentTree) → hyp_of at.sequent h ≡ o
      → ande_row at.sequent o ≡ Some ps → Row at (step.Ande h) ps
  unfolding ande_row
  ande-back h (Some (both a b)) ps q e =
      let z : ps ≡ assuming (assuming at.sequent a) b ∷ [] = cc in
      subst (Row at (step.Ande h)) (sym z) (row.ande h a b q)
  ande-back h _ ps q e = absurd (cc)

  ore-back : (h : ℕ) (o : Option TermTree) (ps : List SequentTree) → hyp_of at.sequent h ≡ o
      → ore_row at.sequent o ≡ Some ps → Row at (step.Ore h) ps
  unfolding ore_row
  ore-back h (Some (either a b)) ps q e =
      let z : ps ≡ assuming at.sequent a ∷ assuming at.sequent b ∷ [] = cc in
      subst (Row at (step.Ore h)) (sym z) (row.ore h a b q)
  ore-back h _ ps q e = absurd (cc)

  impe-back : (h : ℕ) (o : Option TermTree) (ps : List SequentTree) → hyp_of at.sequent h ≡ o
      → impe_row at.sequent o ≡ Some ps → Row at (step.Impe h) ps
  unfolding impe_row
  impe-back h (Some (implies a b)) ps q e =
      let z : ps ≡ asking at.sequent a ∷ assuming at.sequent b ∷ [] = cc in
      subst (Row at (step.Impe h)) (sym z) (row.impe h a b q)
  impe-back h _ ps q e = absurd (cc)

  note-back : (h : ℕ) (o : Option TermTree) (ps : List SequentTree) → hyp_of at.sequent h ≡ o
      → note_row at.sequent o ≡ Some ps → Row at (step.Note h) ps
  unfolding note_row
  note-back h (Some (negation a)) ps q e =
      let z : ps ≡ asking at.sequent a ∷ [] = cc in
      subst (Row at (step.Note h)) (sym z) (row.note h a q)
  note-back h _ ps q e = absurd (cc)

  exe-back : (h : ℕ) (o : Option TermTree) (ps : List SequentTree) → hyp_of at.sequent h ≡ o
      → exe_row at.sequent o ≡ Some ps → Row at (step.Exe h) ps
  unfolding exe_row
  exe-back h (Some (some x F)) ps q e =
      let z : ps
      ≡ with_variable x (assuming at.sequent (opened (new_variable x at.sequent) F)) ∷ [] =
      cc in
      subst (Row at (step.Exe h)) (sym z) (row.exe h x F q)
  exe-back h _ ps q e = absurd (cc)

  hyp-back : (h : ℕ) (o p : Option TermTree) (ps : List SequentTree) → goal_of at.sequent ≡ o
      → hyp_of at.sequent h ≡ p → hyp_row o p ≡ Some ps → Row at (step.Hyp h) ps
  hyp-back h (Some g) (Some t) ps q r e = go (is_same_tree g t) refl e
    where
      go : (b : Bool) → is_same_tree g t ≡ b → closing_row b ≡ Some ps → Row at (step.Hyp h) ps
      go true i k =
          let z : ps ≡ [] = cc in
          let x : g ≡ t = (is_same_tree-decides g t).0 i in
          subst (Row at (step.Hyp h)) (sym z) (row.hyp h g q (r ∙ ap Some (sym x)))
      go false i k = absurd (cc)
  hyp-back h None p ps q r e = absurd (cc)
  hyp-back h (Some g) None ps q r e = absurd (cc)

  true-back : (o : Option TermTree) (ps : List SequentTree) → goal_of at.sequent ≡ o
      → true_row o ≡ Some ps → Row at step.True ps
  unfolding true_row
  true-back (Some truth) ps q e =
      let z : ps ≡ [] = cc in
      subst (Row at step.True) (sym z) (row.true_goal q)
  true-back _ ps q e = absurd (cc)

  absurd-back : (h : ℕ) (o : Option TermTree) (ps : List SequentTree) → hyp_of at.sequent h ≡ o
      → absurd_row o ≡ Some ps → Row at (step.Absurd h) ps
  unfolding absurd_row
  absurd-back h (Some falsity) ps q e =
      let z : ps ≡ [] = cc in
      subst (Row at (step.Absurd h)) (sym z) (row.absurd_hyp h q)
  absurd-back h _ ps q e = absurd (cc)

  exi-back : (w : ValArg) (o : Option TermTree) (ps : List SequentTree) → goal_of at.sequent ≡ o
      → exi_row at w o ≡ Some ps → Row at (step.Exi w) ps
  unfolding exi_row
  exi-back w (Some (some x F)) ps q e = go (value_in at x w) refl e
    where
      go : (v : Option ArgTree) → value_in at x w ≡ v → asked_at at F v ≡ Some ps
          → Row at (step.Exi w) ps
      go None i k = absurd (cc)
      go (Some v) i k =
          let z : ps ≡ asking at.sequent (opened v F) ∷ [] = cc in
          subst (Row at (step.Exi w)) (sym z) (row.exi w x F v q i)
  exi-back w _ ps q e = absurd (cc)

  alle-back : (h : ℕ) (w : ValArg) (o : Option TermTree) (ps : List SequentTree)
      → hyp_of at.sequent h ≡ o → alle_row at w o ≡ Some ps → Row at (step.Alle h w) ps
  unfolding alle_row
  alle-back h w (Some (all x F)) ps q e = go (value_in at x w) refl e
    where
      go : (v : Option ArgTree) → value_in at x w ≡ v → assumed_at at F v ≡ Some ps
          → Row at (step.Alle h w) ps
      go None i k = absurd (cc)
      go (Some v) i k =
          let z : ps ≡ assuming at.sequent (opened v F) ∷ [] = cc in
          subst (Row at (step.Alle h w)) (sym z) (row.alle h w x F v q i)
  alle-back h w _ ps q e = absurd (cc)

  cut-back : (a : TermArg) (o : Option TermTree) (ps : List SequentTree) → term_in at Boolean a ≡ o
      → cut_row at.sequent o ≡ Some ps → Row at (step.Cut a) ps
  cut-back a None ps q e = absurd (cc)
  cut-back a (Some F) ps q e =
      let z : ps ≡ asking at.sequent F ∷ assuming at.sequent F ∷ [] = cc in
      subst (Row at (step.Cut a)) (sym z) (row.cut a F q)

  em-back : (a : TermArg) (o : Option TermTree) (ps : List SequentTree) → term_in at Boolean a ≡ o
      → em_row at.sequent o ≡ Some ps → Row at (step.Em a) ps
  em-back a None ps q e = absurd (cc)
  em-back a (Some F) ps q e =
      let z : ps ≡ assuming at.sequent F ∷ assuming at.sequent (negation F) ∷ [] = cc in
      subst (Row at (step.Em a)) (sym z) (row.em a F q)

  drop-back : (h : ℕ) (ps : List SequentTree) → drop_row at.sequent h ≡ Some ps
      → Row at (step.Drop h) ps
  drop-back h ps e = go (nat_lt h (length (hyps_of at.sequent))) refl e
    where
      go : (b : Bool) → nat_lt h (length (hyps_of at.sequent)) ≡ b
          → (if b then Some (with_hyps (without (hyps_of at.sequent) h) at.sequent ∷ []) else None)
          ≡ Some ps
          → Row at (step.Drop h) ps
      go true i k =
          let z : ps ≡ with_hyps (without (hyps_of at.sequent) h) at.sequent ∷ [] = cc in
          subst (Row at (step.Drop h)) (sym z)
          (row.drop h ((Decides-ltb h (length (hyps_of at.sequent))).0 i))
      go false i k = absurd (cc)

  sym-back : (o : Option TermTree) (ps : List SequentTree) → local_goal_of at.sequent ≡ o
      → sym_row at.sequent o ≡ Some ps → Row at step.Sym ps
  unfolding sym_row
  sym-back (Some (equal u v)) ps q e =
      let z : ps ≡ asking at.sequent (equal v u) ∷ [] = cc in
      subst (Row at step.Sym) (sym z) (row.sym u v q)
  sym-back _ ps q e = absurd (cc)

  trans-back : (a : TermArg) (o p : Option TermTree) (ps : List SequentTree)
      → local_goal_of at.sequent ≡ o
      → term_in at Message a ≡ p → trans_row at.sequent o p ≡ Some ps → Row at (step.Trans a) ps
  unfolding trans_row
  trans-back a (Some (equal u v)) (Some w) ps q r e =
      let z : ps ≡ asking at.sequent (equal u w) ∷ asking at.sequent (equal w v) ∷ [] = cc in
      subst (Row at (step.Trans a)) (sym z) (row.trans a u w v q r)
  trans-back a _ _ ps q r e = absurd (cc)

  arg-same : (t u : TermTree) (ps : List SequentTree) → local_goal_of at.sequent ≡ Some (equal t u)
      → applications_row at.sequent t u ≡ Some ps → Row at step.Arg ps
  unfolding applications_row
  arg-same (fun f is us) (fun g js vs) ps q e =
      go (same_kind f g && (pointwise is_same_idx is js && (count_terms us == count_terms vs))) refl
      e
    where
      go : (b : Bool)
          → (same_kind f g && (pointwise is_same_idx is js && (count_terms us == count_terms vs)))
          ≡ b
          → (if b then Some (arguments_asked at.sequent f 0 us vs) else None) ≡ Some ps
          → Row at step.Arg ps
      go true i k =
          let z : ps ≡ arguments_asked at.sequent f 0 us vs = cc in
          let p = and_split (same_kind f g) _ i in
          let r = and_split (pointwise is_same_idx is js) _ p.1 in
          let x : f ≡ g = (same_kind-decides f g).0 p.0 in
          let y : is ≡ js = (pointwise_decides is_same_idx-decides is js).0 r.0 in
          let n : count_terms us ≡ count_terms vs =
          (Decides-eqb (count_terms us) (count_terms vs)).0 r.1 in
          let w : fun g js vs ≡ fun f is vs =
          sym (ap (λ m. fun m is vs) x ∙ ap (λ ks. fun g ks vs) y) in
          subst (Row at step.Arg) (sym z)
          (row.arg f is us vs n (q ∙ ap (λ t. Some (equal (fun f is us) t)) w))
      go false i k = absurd (cc)
  arg-same _ _ ps q e = absurd (cc)

  arg-back : (o : Option TermTree) (ps : List SequentTree) → local_goal_of at.sequent ≡ o
      → arg_row at.sequent o ≡ Some ps → Row at step.Arg ps
  unfolding arg_row
  arg-back (Some (equal t u)) ps q e = arg-same t u ps q e
  arg-back _ ps q e = absurd (cc)

  -- rows that look at the body of the sequent
  proj-back : (s : SequentTree) (ps : List SequentTree) → at.sequent ≡ s → proj_row s ≡ Some ps
      → Row at step.Proj ps
  proj-back (local side.Both vars H c) ps q e =
      let t : SequentTree = local side.Both vars H c in
      let z : ps ≡ on_side side.Left (local side.Both vars H c) ∷ on_side side.Right
      (local side.Both vars H c) ∷ [] = cc in
      subst (Row at step.Proj)
      (sym (z ∙ ap (λ r. on_side side.Left r ∷ on_side side.Right r ∷ []) (sym q)))
      (row.proj (subst (λ r. IsOn (body_of r) side.Both) (sym q) refl))
  proj-back _ ps q e = absurd (cc)

  trace-back : (s : SequentTree) (ps : List SequentTree) → at.sequent ≡ s → trace_row s ≡ Some ps
      → Row at step.Trace ps
  trace-back (trace vars H c) ps q e = absurd (cc)
  trace-back (local side vars H c) ps q e =
      let z : ps ≡ trace vars (pure_ones H) (pure_or_false c) ∷ [] = cc in
      subst (Row at step.Trace)
      (sym (z ∙ ap (λ r. trace (vars_of r) (pure_ones (hyps_of r)) (pure_or_false c) ∷ []) (sym q)))
      (row.of_trace (pure_or_false c)
      (subst (λ r. AsksOfTrace (body_of r) (pure_or_false c)) (sym q) refl))
  trace-back (equiv vars H known items) ps q e =
      let z : ps ≡ trace vars (pure_ones H) falsity ∷ [] = cc in
      subst (Row at step.Trace)
      (sym (z ∙ ap (λ r. trace (vars_of r) (pure_ones (hyps_of r)) falsity ∷ []) (sym q)))
      (row.of_trace falsity (subst (λ r. AsksOfTrace (body_of r) falsity) (sym q) refl))

  itself : (m : Bool) (t : TermTree) → goal_of at.sequent ≡ Some t
      → (m ≡ true → local_goal_of at.sequent ≡ Some t) → is_reflexive m t ≡ true → AsksItself at
  unfolding is_reflexive
  itself m (equal a b) q l e =
      let h = and_split m (is_same_tree a b) e in
      let x : a ≡ b = (is_same_tree-decides a b).0 h.1 in
      row.of_message a (l h.0 ∙ ap (λ t. Some (equal a t)) (sym x))
  itself m (ts_eq t u) q l e =
      let x : t ≡ u = (is_same_ts_tree-decides t u).0 e in
      row.of_time t (q ∙ ap (λ v. Some (ts_eq t v)) (sym x))
  itself m (idx_eq i j) q l e =
      let x : i ≡ j = (is_same_idx-decides i j).0 e in
      row.of_index i (q ∙ ap (λ v. Some (idx_eq i v)) (sym x))
  itself m _ q l e = absurd (cc)

  closed : (b : Bool) (ps : List SequentTree) → (b ≡ true → AsksItself at) → closing_row b ≡ Some ps
      → Row at step.Refl ps
  closed true ps f e =
      let z : ps ≡ [] = cc in
      subst (Row at step.Refl) (sym z) (row.itself (f refl))
  closed false ps f e = absurd (cc)

  refl-back : (s : SequentTree) (ps : List SequentTree) → at.sequent ≡ s → refl_row s ≡ Some ps
      → Row at step.Refl ps
  unfolding goal_of local_goal_of
  refl-back (trace vars H c) ps q e =
      closed (is_reflexive false c) ps (λ h. itself false c (ap goal_of q) (λ f. absurd (cc)) h) e
  refl-back (local side vars H c) ps q e =
      closed (is_reflexive true c) ps
      (λ h. itself true c (ap goal_of q) (λ f. ap local_goal_of q) h) e
  refl-back (equiv vars H known items) ps q e = absurd (cc)

  -- a fact, and an earlier statement, of a local sequent
  fact-body : (a : TermArg) (side : Side) (o : Option TermTree) (ps : List SequentTree)
      → IsLocal at side → term_at at.sequent a ≡ o
      → assumed_fact at.sequent (standing_fact at o) ≡ Some ps → Row at (step.Fact a) ps
  unfolding term_in
  fact-body a side None ps l q e = absurd (cc)
  fact-body a side (Some t) ps l q e = go (may_stand at (fact_sort at.env.funs t) t) refl e
    where
      made : (o : Option TermTree) → fact_of at.env.funs t ≡ o
          → may_stand at (fact_sort at.env.funs t) t ≡ true
          → assumed_fact at.sequent o ≡ Some ps → Row at (step.Fact a) ps
      made None i m k = absurd (cc)
      made (Some F) i m k =
          let z : ps ≡ assuming at.sequent F ∷ [] = cc in
          let there : where_standing at (fact_sort at.env.funs t) (term_at at.sequent a) ≡ Some t =
          ap (where_standing at (fact_sort at.env.funs t)) q ∙ ap
          (λ b. if b then Some t else None) m in
          subst (Row at (step.Fact a)) (sym z)
          (row.fact a side (fact_sort at.env.funs t) t F l there (fact-shape at.env.funs t F i))

      go : (b : Bool) → may_stand at (fact_sort at.env.funs t) t ≡ b
          → assumed_fact at.sequent (if b then fact_of at.env.funs t else None) ≡ Some ps
          → Row at (step.Fact a) ps
      go true m k = made (fact_of at.env.funs t) refl m k
      go false m k = absurd (cc)

  fact-back : (a : TermArg) (b : Body) (ps : List SequentTree) → body_of at.sequent ≡ b
      → fact_on at b a ≡ Some ps → Row at (step.Fact a) ps
  fact-back a (trace_body c) ps q e = absurd (cc)
  fact-back a (local_body side c) ps q e =
      fact-body a side (term_at at.sequent a) ps (subst (λ r. IsOn r side) (sym q) refl) refl e
  fact-back a (equiv_body known items) ps q e = absurd (cc)

  first-message : (w : TermArg) (ws : List TermArg) (ms : List TermTree) (o : Option TermTree)
      (p : Option (List TermTree))
      → term_in at Message w ≡ o → ((ts : List TermTree) → p ≡ Some ts → AreMessages at ws ts)
      → with_first o p ≡ Some ms → AreMessages at (w ∷ ws) ms
  first-message w ws ms None p i rest k = absurd (cc)
  first-message w ws ms (Some t) None i rest k = absurd (cc)
  first-message w ws ms (Some t) (Some ts) i rest k =
      let z : ms ≡ t ∷ ts = cc in
      subst (AreMessages at (w ∷ ws)) (sym z) (i, rest ts refl)

  messages-back : (ws : List TermArg) (ms : List TermTree) → messages_in at ws ≡ Some ms
      → AreMessages at ws ms
  messages-back [] [] e = tt
  messages-back [] (m ∷ ms) e = absurd (cc)
  messages-back (w ∷ ws) ms e =
      first-message w ws ms (term_in at Message w) (messages_in at ws) refl (messages-back ws) e

  offers : (k n : ℕ) (F : TermTree) → offered at k n ≡ Some F → Offers at k n F
  unfolding offered
  offers k n F e = go (slice_get at.env.stmts k) refl e
    where
      go : (o : Option StmtTree) → slice_get at.env.stmts k ≡ o → offered_by at k n o ≡ Some F
          → Offers at k n F
      go None i h = absurd (cc)
      go (Some st) i h =
          within (usable at.env at.goal k && (states_a_formula st.kind && (n == length st.schemas)))
          refl h
        where
          within : (b : Bool)
              → (usable at.env at.goal k && (states_a_formula st.kind && (n == length st.schemas)))
              ≡ b
              → (if b then goal_of st.start else None) ≡ Some F → Offers at k n F
          within true j g =
              let p = and_split (usable at.env at.goal k) _ j in
              let r = and_split (states_a_formula st.kind) _ p.1 in
              record {
                statement = st;
                there_is = i;
                is_usable = p.0;
                states = r.0;
                count = (Decides-eqb n (length st.schemas)).0 r.1;
                says = g;
              }
          within false j g = absurd (cc)

  use-back : (k : ℕ) (ws : List TermArg) (b : Body) (ps : List SequentTree) → body_of at.sequent ≡ b
      → use_on at b k ws ≡ Some ps → Row at (step.UseStmt k ws) ps
  use-back k ws (trace_body c) ps q e = absurd (cc)
  use-back k ws (equiv_body known items) ps q e = absurd (cc)
  use-back k ws (local_body side c) ps q e =
      go (offered at k (length ws)) refl (messages_in at ws) refl e
    where
      go : (o : Option TermTree) → offered at k (length ws) ≡ o → (p : Option (List TermTree))
          → messages_in at ws ≡ p → used_with at.sequent side o p ≡ Some ps
          → Row at (step.UseStmt k ws) ps
      go None i p j h = absurd (cc)
      go (Some F) i None j h = absurd (cc)
      go (Some F) i (Some ms) j h =
          let z : ps ≡ assuming at.sequent (instance_on side ms F) ∷ [] = cc in
          subst (Row at (step.UseStmt k ws)) (sym z)
          (row.use_statement k ws side F ms (subst (λ r. IsOn r side) (sym q) refl)
          (offers k (length ws) F i) (messages-back ws ms j))

  -- rewriting
  equation-back : (f : TermTree) (r : Rewriting) → by_equation f ≡ Some r → Equates at f r
  unfolding by_equation
  equation-back (equal a b) r e = let z : r ≡ term_by a b =
      cc in subst (Equates at (equal a b)) (sym z) (row.messages a b)
  equation-back (ts_eq a b) r e = let z : r ≡ time_by a b =
      cc in subst (Equates at (ts_eq a b)) (sym z) (row.times a b)
  equation-back (idx_eq i j) r e = let z : r ≡ index_by i j =
      cc in subst (Equates at (idx_eq i j)) (sym z) (row.indices i j)
  equation-back _ r e = absurd (cc)

  equivalence-back : (side : Side) (f : TermTree) (r : Rewriting) → IsLocal at side
      → by_equivalence f ≡ Some r → Equates at f r
  unfolding by_equivalence
  equivalence-back side (both (implies a b) (implies c d)) r l e =
      go (is_same_tree a d && is_same_tree b c) refl e
    where
      go : (q : Bool) → (is_same_tree a d && is_same_tree b c) ≡ q
          → (if q then Some (term_by a b) else None) ≡ Some r
          → Equates at (both (implies a b) (implies c d)) r
      go true i k =
          let h = and_split (is_same_tree a d) (is_same_tree b c) i in
          let x : a ≡ d = (is_same_tree-decides a d).0 h.0 in
          let y : b ≡ c = (is_same_tree-decides b c).0 h.1 in
          let z : r ≡ term_by a b = cc in
          let w : equivalent a b ≡ both (implies a b) (implies c d) =
          ap (λ t. both (implies a b) (implies t a)) y
          ∙ ap (λ t. both (implies a b) (implies c t)) x in
          subst (Equates at (both (implies a b) (implies c d))) (sym z)
          (subst (λ t. Equates at t (term_by a b)) w (row.formulas side a b l))
      go false i k = absurd (cc)
  equivalence-back side _ r l e = absurd (cc)

  read-back : (f : TermTree) (r : Rewriting) (o : Option Rewriting) (b : Body) → by_equation f ≡ o
      → body_of at.sequent ≡ b → first_rewriting o (equivalence_in b f) ≡ Some r → Equates at f r
  read-back f r (Some x) b q i e =
      let z : x ≡ r = cc in
      equation-back f r (q ∙ ap Some z)
  read-back f r None (trace_body c) q i e = absurd (cc)
  read-back f r None (equiv_body known items) q i e = absurd (cc)
  read-back f r None (local_body side c) q i e =
      equivalence-back side f r (subst (λ z. IsOn z side) (sym i) refl) e

  target-back : (h : ℕ) (d : Dir) (p : Target) (f : TermTree) (r : Rewriting)
      (premise : SequentTree) (ps : List SequentTree)
      → hyp_of at.sequent h ≡ Some f → Equates at f r → ps ≡ premise ∷ []
      → Rewritten at h (turned d r) p premise → Row at (step.Rew h d p) ps
  target-back h d p f r premise ps q t z w =
      subst (Row at (step.Rew h d p)) (sym z) (row.rew h d p f r premise q t w)

  items-back : (h : ℕ) (d : Dir) (f : TermTree) (r : Rewriting) (s : SequentTree)
      (ps : List SequentTree)
      → hyp_of at.sequent h ≡ Some f → Equates at f r → at.sequent ≡ s
      → items_rewritten s (turned d r) ≡ Some ps → Row at (step.Rew h d target.Items) ps
  items-back h d f r (trace vars H c) ps q t i e = absurd (cc)
  items-back h d f r (local side vars H c) ps q t i e = absurd (cc)
  items-back h d f r (equiv vars H known items) ps q t i e =
      target-back h d target.Items f r
      (equiv vars H known (map (item_rewritten (turned d r)) items)) ps q t (cc)
      (row.in_items vars H known items i)

  rewriting-back : (h : ℕ) (d : Dir) (p : Target) (f : TermTree) (r : Rewriting)
      (ps : List SequentTree)
      → hyp_of at.sequent h ≡ Some f → Equates at f r
      → rewriting_at at.sequent h p (turned d r) ≡ Some ps → Row at (step.Rew h d p) ps
  rewriting-back h d target.Goal f r ps q t e = go (goal_of at.sequent) refl e
    where
      go : (o : Option TermTree) → goal_of at.sequent ≡ o → goal_rewritten at.sequent (turned d r) o
          ≡ Some ps
          → Row at (step.Rew h d target.Goal) ps
      go None i k = absurd (cc)
      go (Some c) i k =
          target-back h d target.Goal f r (asking at.sequent (rewritten (turned d r) c)) ps q t (cc)
          (row.in_goal c i)
  rewriting-back h d target.Items f r ps q t e = items-back h d f r at.sequent ps q t refl e
  rewriting-back h d (target.Hyp k) f r ps q t e = go (k == h) refl e
    where
      there : (o : Option TermTree) → hyp_of at.sequent k ≡ o → k ≢ h
          → hyp_rewritten at.sequent k (turned d r) o ≡ Some ps
          → Row at (step.Rew h d (target.Hyp k)) ps
      there None i n j = absurd (cc)
      there (Some c) i n j =
          target-back h d (target.Hyp k) f r
          (with_hyps (slice_set (hyps_of at.sequent) k (rewritten (turned d r) c)) at.sequent) ps q
          t (cc)
          (row.in_hypothesis k c n i)

      go : (b : Bool) → (k == h) ≡ b
          → (if b then None else hyp_rewritten at.sequent k (turned d r) (hyp_of at.sequent k))
          ≡ Some ps
          → Row at (step.Rew h d (target.Hyp k)) ps
      go true i j = absurd (cc)
      go false i j = there (hyp_of at.sequent k) refl (other k h i) j
        where
          other : (m n : ℕ) → (m == n) ≡ false → m ≢ n
          other m n x y = let z : (m == n) ≡ true = (Decides-eqb m n).1 y in absurd (cc)

  rew-back : (h : ℕ) (d : Dir) (p : Target) (o : Option TermTree) (ps : List SequentTree)
      → hyp_of at.sequent h ≡ o → rew_row at.sequent h p (rewriting_of at.sequent d o) ≡ Some ps
      → Row at (step.Rew h d p) ps
  unfolding rewriting_of
  rew-back h d p None ps q e = absurd (cc)
  rew-back h d p (Some f) ps q e = go (read_in at.sequent f) refl e
    where
      go : (o : Option Rewriting) → read_in at.sequent f ≡ o
          → rew_row at.sequent h p (option_map (turned d) o) ≡ Some ps → Row at (step.Rew h d p) ps
      go None i k = absurd (cc)
      go (Some r) i k =
          rewriting-back h d p f r ps q
          (read-back f r (by_equation f) (body_of at.sequent) refl refl i) k

  -- of any step
  pub row-back : (x : Step) (ps : List SequentTree) → logic_row at x ≡ Some ps → Row at x ps
  unfolding logic_row use_row
  row-back (step.Hyp h) ps e = hyp-back h (goal_of at.sequent) (hyp_of at.sequent h) ps refl refl e
  row-back step.True ps e = true-back (goal_of at.sequent) ps refl e
  row-back (step.Absurd h) ps e = absurd-back h (hyp_of at.sequent h) ps refl e
  row-back step.Impi ps e = impi-back (goal_of at.sequent) ps refl e
  row-back step.Noti ps e = noti-back (goal_of at.sequent) ps refl e
  row-back step.Alli ps e = alli-back (goal_of at.sequent) ps refl e
  row-back step.Andi ps e = andi-back (goal_of at.sequent) ps refl e
  row-back step.Orl ps e = orl-back (goal_of at.sequent) ps refl e
  row-back step.Orr ps e = orr-back (goal_of at.sequent) ps refl e
  row-back (step.Exi w) ps e = exi-back w (goal_of at.sequent) ps refl e
  row-back (step.Ande h) ps e = ande-back h (hyp_of at.sequent h) ps refl e
  row-back (step.Ore h) ps e = ore-back h (hyp_of at.sequent h) ps refl e
  row-back (step.Impe h) ps e = impe-back h (hyp_of at.sequent h) ps refl e
  row-back (step.Note h) ps e = note-back h (hyp_of at.sequent h) ps refl e
  row-back (step.Alle h w) ps e = alle-back h w (hyp_of at.sequent h) ps refl e
  row-back (step.Exe h) ps e = exe-back h (hyp_of at.sequent h) ps refl e
  row-back (step.Cut a) ps e = cut-back a (term_in at Boolean a) ps refl e
  row-back (step.Em a) ps e = em-back a (term_in at Boolean a) ps refl e
  row-back (step.Drop h) ps e = drop-back h ps e
  row-back (step.UseStmt k ws) ps e = use-back k ws (body_of at.sequent) ps refl e
  row-back step.Proj ps e = proj-back at.sequent ps refl e
  row-back step.Trace ps e = trace-back at.sequent ps refl e
  row-back step.Refl ps e = refl-back at.sequent ps refl e
  row-back step.Sym ps e = sym-back (local_goal_of at.sequent) ps refl e
  row-back (step.Trans a) ps e =
      trans-back a (local_goal_of at.sequent) (term_in at Message a) ps refl refl e
  row-back step.Arg ps e = arg-back (local_goal_of at.sequent) ps refl e
  row-back (step.Rew h d p) ps e = rew-back h d p (hyp_of at.sequent h) ps refl e
  row-back (step.Fact a) ps e = fact-back a (body_of at.sequent) ps refl e
  row-back _ ps e = absurd (cc)

  -- ---- from the row to the computed premises

  proj-there : (s : SequentTree) → IsOn (body_of s) side.Both
      → proj_row s ≡ Some (on_side side.Left s ∷ on_side side.Right s ∷ [])
  proj-there (local side.Both vars H c) l = refl
  proj-there (local side.Left vars H c) l = absurd (cc)
  proj-there (local side.Right vars H c) l = absurd (cc)
  proj-there (trace vars H c) l = absurd l
  proj-there (equiv vars H known items) l = absurd l

  trace-there : (s : SequentTree) (c : TermTree) → AsksOfTrace (body_of s) c
      → trace_row s ≡ Some (trace (vars_of s) (pure_ones (hyps_of s)) c ∷ [])
  trace-there (trace vars H t) c a = absurd a
  trace-there (local side vars H t) c a = ap (λ d. Some (trace vars (pure_ones H) d ∷ [])) (sym a)
  trace-there (equiv vars H known items) c a =
      ap (λ d. Some (trace vars (pure_ones H) d ∷ [])) (sym a)

  message-reflexive : (s : SequentTree) (u : TermTree) → local_goal_of s ≡ Some (equal u u)
      → refl_row s ≡ Some []
  unfolding local_goal_of is_reflexive
  message-reflexive (trace vars H c) u e = absurd (cc)
  message-reflexive (equiv vars H known items) u e = absurd (cc)
  message-reflexive (local side vars H c) u e =
      let z : c ≡ equal u u = cc in
      ap (λ t. closing_row (is_reflexive true t)) z
      ∙ ap closing_row ((is_same_tree-decides u u).1 refl)

  time-reflexive : (s : SequentTree) (t : TsTree) → goal_of s ≡ Some (ts_eq t t)
      → refl_row s ≡ Some []
  unfolding goal_of is_reflexive
  time-reflexive (equiv vars H known items) t e = absurd (cc)
  time-reflexive (trace vars H c) t e =
      let z : c ≡ ts_eq t t = cc in
      ap (λ u. closing_row (is_reflexive false u)) z
      ∙ ap closing_row ((is_same_ts_tree-decides t t).1 refl)
  time-reflexive (local side vars H c) t e =
      let z : c ≡ ts_eq t t = cc in
      ap (λ u. closing_row (is_reflexive true u)) z
      ∙ ap closing_row ((is_same_ts_tree-decides t t).1 refl)

  index-reflexive : (s : SequentTree) (i : Idx) → goal_of s ≡ Some (idx_eq i i)
      → refl_row s ≡ Some []
  unfolding goal_of is_reflexive
  index-reflexive (equiv vars H known items) i e = absurd (cc)
  index-reflexive (trace vars H c) i e =
      let z : c ≡ idx_eq i i = cc in
      ap (λ u. closing_row (is_reflexive false u)) z
      ∙ ap closing_row ((is_same_idx-decides i i).1 refl)
  index-reflexive (local side vars H c) i e =
      let z : c ≡ idx_eq i i = cc in
      ap (λ u. closing_row (is_reflexive true u)) z
      ∙ ap closing_row ((is_same_idx-decides i i).1 refl)

  refl-there : AsksItself at → refl_row at.sequent ≡ Some []
  refl-there (row.of_message u e) = message-reflexive at.sequent u e
  refl-there (row.of_time t e) = time-reflexive at.sequent t e
  refl-there (row.of_index i e) = index-reflexive at.sequent i e

  arg-there : (f : Kind) (is : List Idx) (us vs : TermTrees) → count_terms us ≡ count_terms vs
      → arg_row at.sequent (Some (equal (fun f is us) (fun f is vs)))
      ≡ Some (arguments_asked at.sequent f 0 us vs)
  unfolding arg_row applications_row
  arg-there f is us vs n =
      ap (λ b. if b then Some (arguments_asked at.sequent f 0 us vs) else None)
      (and_both (same_kind f f) _ ((same_kind-decides f f).1 refl)
      (and_both (pointwise is_same_idx is is) _
      ((pointwise_decides is_same_idx-decides is is).1 refl)
      ((Decides-eqb (count_terms us) (count_terms vs)).1 n)))

  fact-there : (b : Body) (a : TermArg) (side : Side) (x : Sort) (t F : TermTree) → IsOn b side
      → term_in at x a ≡ Some t → HasFact at.env.funs x t F
      → fact_on at b a ≡ Some (assuming at.sequent F ∷ [])
  unfolding term_in
  fact-there (trace_body c) a side x t F l m h = absurd l
  fact-there (equiv_body known items) a side x t F l m h = absurd l
  fact-there (local_body own c) a side x t F l m h = go (term_at at.sequent a) m
    where
      is : (fact_sort at.env.funs t ≡ x) × (fact_of at.env.funs t ≡ Some F)
      is = fact-is at.env.funs x t F h

      standing : (u : TermTree) (b : Bool) → may_stand at x u ≡ b
          → (if b then Some u else None) ≡ Some t
          → assumed_fact at.sequent
          (if may_stand at (fact_sort at.env.funs u) u then fact_of at.env.funs u else None)
          ≡ Some (assuming at.sequent F ∷ [])
      standing u false q e = absurd (cc)
      standing u true q e =
          let z : u ≡ t = cc in
          let w : may_stand at (fact_sort at.env.funs t) t ≡ true =
          ap (λ s. may_stand at s t) is.0 ∙ subst (λ v. may_stand at x v ≡ true) z q in
          ap (λ v. assumed_fact at.sequent
          (if may_stand at (fact_sort at.env.funs v) v then fact_of at.env.funs v else None)) z
          ∙ (ap (λ b. assumed_fact at.sequent (if b then fact_of at.env.funs t else None)) w
          ∙ ap (assumed_fact at.sequent) is.1)

      go : (o : Option TermTree) → where_standing at x o ≡ Some t
          → assumed_fact at.sequent (standing_fact at o) ≡ Some (assuming at.sequent F ∷ [])
      go None e = absurd (cc)
      go (Some u) e = standing u (may_stand at x u) refl e

  messages-there : (ws : List TermArg) (ms : List TermTree) → AreMessages at ws ms
      → messages_in at ws ≡ Some ms
  messages-there [] [] e = refl
  messages-there (w ∷ ws) (t ∷ ts) e =
      ap (λ o. with_first o (messages_in at ws)) e.0
      ∙ ap (with_first (Some t)) (messages-there ws ts e.1)
  messages-there [] (t ∷ ts) e = absurd e
  messages-there (w ∷ ws) [] e = absurd e

  offered-there : (k n : ℕ) (F : TermTree) → Offers at k n F → offered at k n ≡ Some F
  unfolding offered
  offered-there k n F o =
      let st : StmtTree = o.statement in
      ap (offered_by at k n) o.there_is
      ∙ (ap (λ b. if b then goal_of st.start else None)
      (and_both (usable at.env at.goal k) _ o.is_usable
      (and_both (states_a_formula st.kind) _ o.states
      ((Decides-eqb n (length st.schemas)).1 o.count)))
      ∙ o.says)

  use-there : (b : Body) (k : ℕ) (ws : List TermArg) (side : Side) (F : TermTree)
      (ms : List TermTree)
      → IsOn b side → Offers at k (length ws) F → AreMessages at ws ms
      → use_on at b k ws ≡ Some (assuming at.sequent (instance_on side ms F) ∷ [])
  use-there (trace_body c) k ws side F ms l o m = absurd l
  use-there (equiv_body known items) k ws side F ms l o m = absurd l
  use-there (local_body own c) k ws side F ms l o m =
      ap (λ q. used_with at.sequent own q (messages_in at ws)) (offered-there k (length ws) F o)
      ∙ (ap (used_with at.sequent own (Some F)) (messages-there ws ms m)
      ∙ ap (λ q. Some (assuming at.sequent (instance_on q ms F) ∷ [])) l)

  equivalence-there : (b : Body) (side : Side) (x y : TermTree) → IsOn b side
      → equivalence_in b (equivalent x y) ≡ Some (term_by x y)
  unfolding by_equivalence
  equivalence-there (trace_body c) side x y l = absurd l
  equivalence-there (equiv_body known items) side x y l = absurd l
  equivalence-there (local_body own c) side x y l =
      ap (λ q. if q then Some (term_by x y) else None)
      (and_both (is_same_tree x x) (is_same_tree y y) ((is_same_tree-decides x x).1 refl)
      ((is_same_tree-decides y y).1 refl))

  read-there : (f : TermTree) (r : Rewriting) → Equates at f r → read_in at.sequent f ≡ Some r
  unfolding by_equation
  read-there _ _ (row.messages u v) = refl
  read-there _ _ (row.times t u) = refl
  read-there _ _ (row.indices i j) = refl
  read-there _ _ (row.formulas side a b l) = equivalence-there (body_of at.sequent) side a b l

  target-there : (h : ℕ) (r : Rewriting) (p : Target) (premise : SequentTree)
      → Rewritten at h r p premise
      → rewriting_at at.sequent h p r ≡ Some (premise ∷ [])
  target-there h r _ _ (row.in_goal g e) = ap (goal_rewritten at.sequent r) e
  target-there h r _ _ (row.in_hypothesis k f n e) = go (k == h) refl
    where
      go : (b : Bool) → (k == h) ≡ b
          → (if b then None else hyp_rewritten at.sequent k r (hyp_of at.sequent k))
          ≡ Some (with_hyps (slice_set (hyps_of at.sequent) k (rewritten r f)) at.sequent ∷ [])
      go true q = absurd (n ((Decides-eqb k h).0 q))
      go false q = ap (hyp_rewritten at.sequent k r) e
  target-there h r _ _ (row.in_items vars H known items e) = ap (λ s. items_rewritten s r) e

  rew-there : (h : ℕ) (d : Dir) (p : Target) (f : TermTree) (r : Rewriting) (premise : SequentTree)
      → hyp_of at.sequent h ≡ Some f → Equates at f r → Rewritten at h (turned d r) p premise
      → rew_row at.sequent h p (rewriting_of at.sequent d (hyp_of at.sequent h))
      ≡ Some (premise ∷ [])
  unfolding rewriting_of
  rew-there h d p f r premise e q w =
      ap (λ o. rew_row at.sequent h p (rewriting_of at.sequent d o)) e
      ∙ (ap (λ o. rew_row at.sequent h p (option_map (turned d) o)) (read-there f r q)
      ∙ target-there h (turned d r) p premise w)

  pub row-there : (x : Step) (ps : List SequentTree) → Row at x ps → logic_row at x ≡ Some ps
  unfolding logic_row use_row true_row absurd_row impi_row noti_row alli_row andi_row orl_row
      orr_row exi_row ande_row ore_row impe_row note_row alle_row exe_row sym_row trans_row
  row-there _ _ (row.hyp h g e f) =
      ap (λ o. hyp_row o (hyp_of at.sequent h)) e
      ∙ (ap (hyp_row (Some g)) f ∙ ap closing_row ((is_same_tree-decides g g).1 refl))
  row-there _ _ (row.true_goal e) = ap true_row e
  row-there _ _ (row.absurd_hyp h e) = ap absurd_row e
  row-there _ _ (row.impi a b e) = ap (impi_row at.sequent) e
  row-there _ _ (row.noti a e) = ap (noti_row at.sequent) e
  row-there _ _ (row.alli x F e) = ap (alli_row at.sequent) e
  row-there _ _ (row.andi a b e) = ap (andi_row at.sequent) e
  row-there _ _ (row.orl a b e) = ap (orl_row at.sequent) e
  row-there _ _ (row.orr a b e) = ap (orr_row at.sequent) e
  row-there _ _ (row.exi arg x F w e v) = ap (exi_row at arg) e ∙ ap (asked_at at F) v
  row-there _ _ (row.ande h a b e) = ap (ande_row at.sequent) e
  row-there _ _ (row.ore h a b e) = ap (ore_row at.sequent) e
  row-there _ _ (row.impe h a b e) = ap (impe_row at.sequent) e
  row-there _ _ (row.note h a e) = ap (note_row at.sequent) e
  row-there _ _ (row.alle h arg x F w e v) = ap (alle_row at arg) e ∙ ap (assumed_at at F) v
  row-there _ _ (row.exe h x F e) = ap (exe_row at.sequent) e
  row-there _ _ (row.cut arg F e) = ap (cut_row at.sequent) e
  row-there _ _ (row.em arg F e) = ap (em_row at.sequent) e
  row-there _ _ (row.drop h l) =
      ap (λ b. if b then Some
      (with_hyps (without (hyps_of at.sequent) h) at.sequent ∷ []) else None)
      ((Decides-ltb h (length (hyps_of at.sequent))).1 l)
  row-there _ _ (row.use_statement k args side F ts l o m) =
      use-there (body_of at.sequent) k args side F ts l o m
  row-there _ _ (row.proj l) = proj-there at.sequent l
  row-there _ _ (row.of_trace c a) = trace-there at.sequent c a
  row-there _ _ (row.itself e) = refl-there e
  row-there _ _ (row.sym u v e) = ap (sym_row at.sequent) e
  row-there _ _ (row.trans arg u w v e t) =
      ap (λ o. trans_row at.sequent o (term_in at Message arg)) e
      ∙ ap (trans_row at.sequent (Some (equal u v))) t
  row-there _ _ (row.arg f is us vs n e) = ap (arg_row at.sequent) e ∙ arg-there f is us vs n
  row-there _ _ (row.rew h d p f r premise e q w) = rew-there h d p f r premise e q w
  row-there _ _ (row.fact arg side x t F l m h) =
      fact-there (body_of at.sequent) arg side x t F l m h

-- the premises that are computed are those of the row
pub rows_agree : (at : Site) (x : Step) → RowsAgree at x
rows_agree at x ps = (row-back at x ps, row-there at x ps)
