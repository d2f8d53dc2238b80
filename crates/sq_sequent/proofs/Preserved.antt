-- Each premise of a row is well-formed where its sequent is.
use Rattle.std.proofs.Common.{◌≡◌, ℕ, refl, sym, ap, subst, ◌∙◌, List, [], ◌∷◌, ◌++◌, Some, None}
use Rattle.std.proofs.Common.{Option, Bool, true, false, map, length, get_or}
use Rattle.std.specs.Prelude.{slice_get, slice_set, if◌then◌else◌}
use Rattle.std.specs.List.{list_all}
use Rattle.std.proofs.lemmas.Option.{get_or_from_slice_get}
use Rattle.sq_base.specs.declared.sort.Sort.{Sort}
use Rattle.sq_base.specs.declared.sort.Sort.TheVariants.{Message, Boolean}
use Rattle.sq_term.specs.declared.term.Side.{Side}
use Rattle.sq_term.specs.declared.term.Side.TheVariants.{Left, Right, Both}
use Rattle.sq_term.specs.Formulas.{falsity, negation, both, either, implies, equal}
use Rattle.sq_term.specs.Lists.{Each}
use Rattle.sq_term.specs.Pure.{is_binder_sort, is_pure}
use Rattle.sq_term.specs.declared.term.Idx.{Idx}
use Rattle.sq_term.specs.Symbols as kind
use Rattle.sq_term.specs.Symbols.{Kind}
use Rattle.sq_term.specs.Syntax.{TermTree, fun, TermTrees, all, some}
use Rattle.sq_term.specs.Systems.{SystemTree}
use Rattle.sq_term.proofs.Members.{each_none, each_cons, each_single}
use Rattle.sq_term.proofs.BoolTests.{and_split, and_both}
use Rattle.sq_typing.specs.Functions.{are_functions}
use Rattle.sq_typing.specs.Standing.{Subject, of_trace, of_side, may_stand}
use Rattle.sq_typing.specs.Typing.{Signature, has_sort}
use Rattle.sq_typing.proofs.Formulas.{sort-of, stands, only-stands, first-stands, second-stands}
use Rattle.sq_typing.proofs.Formulas.{falsity-stands, negation-stands, equal-stands}
use Rattle.sq_subst.specs.Projection.{projected}
use Rattle.sq_subst.specs.Substitution.{opened}
use Rattle.sq_system.specs.Sequents.{Item, Body, trace_body, local_body, equiv_body, SequentTree}
use Rattle.sq_system.specs.Sequents.{sequent, trace, local, equiv, vars_of, hyps_of, body_of}
use Rattle.sq_system.specs.Sizes.{fits, all_fit}
use Rattle.sq_system.specs.Statements.{StmtTree, no_actions}
use Rattle.sq_system.specs.Usable.{no_statement, statement_at, system_of}
use Rattle.sq_system.specs.Scopes.{signature_of, subject_of}
use Rattle.sq_system.specs.WellFormed.{is_item, is_sorted_body, is_sorted}
use Rattle.sq_system.specs.WellFormed.{is_sequent_of, is_well_formed_for, is_environment}
use Rattle.sq_system.proofs.EnvLaws.{environment_parts}
use Rattle.sq_step.specs.declared.step.Step.{Step}
use Rattle.sq_step.specs.declared.step.Target.{Target}
use Rattle.sq_step.specs.declared.step.TermArg.{TermArg}
use Rattle.sq_sequent.specs.Laws.{PreservedByRows}
use Rattle.sq_sequent.specs.Premises.{arguments_asked}
use Rattle.sq_sequent.specs.Premises.{asking, assuming, with_hyps, with_variable, new_variable}
use Rattle.sq_sequent.specs.Premises.{without, pure_ones, pure_or_false}
use Rattle.sq_sequent.specs.Rewriting.{Rewriting, turned, rewritten, item_rewritten}
use Rattle.sq_sequent.specs.Rows as row
use Rattle.sq_sequent.specs.Rows.{Row, Rewritten, in_goal, in_hypothesis, in_items, IsOn}
use Rattle.sq_sequent.specs.Rows.{AsksOfTrace}
use Rattle.sq_sequent.specs.Sides.{on_side}
use Rattle.sq_sequent.specs.Site.{Site}
use Rattle.sq_sequent.specs.Standing.{signature_at}
use Rattle.sq_sequent.specs.Standing as standing
use Rattle.sq_sequent.specs.Sides.{instance_on}
use Rattle.sq_sequent.specs.Views.{goal_of, local_goal_of}
use Rattle.sq_sequent.proofs.ArgumentSorts.{arguments-stand}
use Rattle.sq_formula.proofs.FactSorts.{fact-stands}
use Rattle.sq_formula.proofs.KeptSorts.{with_variables}
use Rattle.sq_sequent.proofs.QuantifierSorts.{wider, sequent-widened, all-new, some-new, all-value}
use Rattle.sq_sequent.proofs.QuantifierSorts.{some-value, binders-all, binders-some}
use Rattle.sq_sequent.proofs.QuantifierSorts.{with_variable-sorted, with_variable-vars}
use Rattle.sq_sequent.proofs.RewriteSorts.{IsTyped, typed, turned-typed, stands-rewritten}
use Rattle.sq_sequent.proofs.RewriteSorts.{items-kept}
use Rattle.sq_formula.proofs.SideSorts.{side-stands, sides-stand}
use Rattle.sq_sequent.proofs.Suited.{suited, hyp-suited, goal-suited, hyps-sorted, body-sorted}
use Rattle.sq_sequent.proofs.Suited.{with_hyps-sorted, without-sorted, assuming-sorted}
use Rattle.sq_sequent.proofs.Suited.{asking-sorted, asking-suits, assuming-suits, pure_ones-sorted}
use Rattle.sq_sequent.proofs.Suited.{all-set, local_goal_is}
use Rattle.sq_sequent.proofs.Offers.{offered-stated}
use Rattle.sq_sequent.proofs.Terms.{term-stands, messages-stand, messages-count}
use Rattle.sq_sequent.proofs.UseSorts.{use_stands}
use Rattle.sq_sequent.proofs.Values.{value-sort}

-- ---- the variables of premises

vars-asking : (s : SequentTree) (t : TermTree) → vars_of (asking s t) ≡ vars_of s
unfolding asking
vars-asking (sequent vars hyps body) t = refl

pub vars-assuming : (s : SequentTree) (t : TermTree) → vars_of (assuming s t) ≡ vars_of s
unfolding assuming
vars-assuming (sequent vars hyps body) t = refl

vars-with : (s : SequentTree) (H : List TermTree) → vars_of (with_hyps H s) ≡ vars_of s
unfolding with_hyps
vars-with (sequent vars hyps body) H = refl

vars-side : (s : SequentTree) (side : Side) → vars_of (on_side side s) ≡ vars_of s
vars-side (trace vars H c) side = refl
vars-side (local own vars H c) side = refl
vars-side (equiv vars H known items) side = refl

-- ---- what the sequent speaks of

subject-on : (body : Body) (side : Side) → IsOn body side → subject_of body ≡ of_side side
subject-on (trace_body c) side h = absurd h
subject-on (local_body own c) side h = ap of_side h
subject-on (equiv_body known items) side h = absurd h

on-a-side : (s : SequentTree) (t : TermTree) → local_goal_of s ≡ Some t
    → (side : Side) × (subject_of (body_of s) ≡ of_side side)
unfolding local_goal_of
on-a-side (trace vars H c) t e = absurd (cc)
on-a-side (local side vars H c) t e = (side, refl)
on-a-side (equiv vars H known items) t e = absurd (cc)

-- ---- what premises put into a sequent

module _ (g : Signature) (ok : are_functions g.funs ≡ true) where
  equal-suited : (about : Subject) (side : Side) (u v : TermTree) → about ≡ of_side side
      → may_stand g about Message u ≡ true → may_stand g about Message v ≡ true
      → may_stand g about Boolean (equal u v) ≡ true
  equal-suited about side u v e h k =
      subst (λ q. may_stand g q Boolean (equal u v) ≡ true) (sym e)
      (equal-stands g ok side u v (subst (λ q. may_stand g q Message u ≡ true) e h)
      (subst (λ q. may_stand g q Message v ≡ true) e k))

  proj-sorted : (s : SequentTree) (side : Side) → IsOn (body_of s) Both → is_sorted g s ≡ true
      → is_sorted g (on_side side s) ≡ true
  proj-sorted (trace vars H c) side l h = absurd l
  proj-sorted (equiv vars H known items) side l h = absurd l
  proj-sorted (local own vars H c) side l h =
      let k : is_sorted g (local Both vars H c) ≡ true =
      subst (λ q. is_sorted g (local q vars H c) ≡ true) l h in
      let p = and_split (list_all (may_stand g (of_side Both) Boolean) H)
      (may_stand g (of_side Both) Boolean c) k in
      and_both (list_all (may_stand g (of_side side) Boolean) (map (projected side) H)) _
      (sides-stand g side H p.0)
      (side-stands g side Boolean c p.1)

  pure-goal : (t : TermTree) → has_sort g [] Boolean t ≡ true
      → may_stand g of_trace Boolean (pure_or_false t) ≡ true
  pure-goal t h = go (is_pure t) refl
    where
      go : (b : Bool) → is_pure t ≡ b → may_stand g of_trace Boolean (if b then t else falsity)
          ≡ true
      go true e = stands g of_trace Boolean t h e
      go false e = falsity-stands g ok of_trace

  trace-goal : (body : Body) (c : TermTree) → AsksOfTrace body c → is_sorted_body g body ≡ true
      → may_stand g of_trace Boolean c ≡ true
  trace-goal (trace_body t) c a h = absurd a
  trace-goal (local_body side t) c a h =
      ap (may_stand g of_trace Boolean) a ∙ pure-goal t (sort-of g (of_side side) Boolean t h)
  trace-goal (equiv_body known items) c a h =
      ap (may_stand g of_trace Boolean) a ∙ falsity-stands g ok of_trace

  items-sorted : (vars : List Sort) (H : List TermTree) (known : List (List Item))
      (items : List Item) (r : Rewriting)
      → IsTyped g of_trace r → is_sorted g (equiv vars H known items) ≡ true
      → is_sorted g (equiv vars H known (map (item_rewritten r) items)) ≡ true
  items-sorted vars H known items r ty h =
      let p = and_split (list_all (may_stand g of_trace Boolean) H) _ h in
      let q = and_split (list_all (list_all (is_item g)) known) (list_all (is_item g) items) p.1 in
      and_both (list_all (may_stand g of_trace Boolean) H) _ p.0
      (and_both (list_all (list_all (is_item g)) known) _ q.0 (items-kept g r ty items q.1))

-- ---- the premises of a row

module _ (at : Site) (kept : is_environment at.env ≡ true)
    (binders : list_all is_binder_sort (vars_of at.sequent) ≡ true)
    (h : is_sorted (signature_at at) at.sequent ≡ true) where
  abbrev s : SequentTree
  s = at.sequent

  abbrev g : Signature
  g = signature_at at

  abbrev about : Subject
  about = subject_of (body_of at.sequent)

  ok : are_functions at.env.funs ≡ true
  ok = (environment_parts at.env kept).0

  -- over variables of binders' sorts, and well-sorted
  abbrev IsSorted : SequentTree → Type 0
  IsSorted p =
      (list_all is_binder_sort (vars_of p) ≡ true)
      × (is_sorted (with_variables (signature_at at) (signature_at at).schemas (vars_of p)) p
      ≡ true)

  same : (p : SequentTree) → vars_of p ≡ vars_of at.sequent → is_sorted (signature_at at) p ≡ true
      → IsSorted p
  same p e k = (
    ap (list_all is_binder_sort) e ∙ binders,
    subst (λ vs. is_sorted (with_variables g g.schemas vs) p ≡ true) (sym e) k,
  )

  goal : (t : TermTree) → goal_of at.sequent ≡ Some t → suited (signature_at at) at.sequent t ≡ true
  goal t e = goal-suited g s t h e

  asked : (t : TermTree) → suited (signature_at at) at.sequent t ≡ true
      → IsSorted (asking at.sequent t)
  asked t k = same (asking s t) (vars-asking s t) (asking-sorted g s t h k)

  assumed : (t : TermTree) → suited (signature_at at) at.sequent t ≡ true
      → IsSorted (assuming at.sequent t)
  assumed t k = same (assuming s t) (vars-assuming s t) (assuming-sorted g s t h k)

  introduced : (a b : TermTree) → suited (signature_at at) at.sequent a ≡ true
      → suited (signature_at at) at.sequent b ≡ true → IsSorted (assuming (asking at.sequent b) a)
  introduced a b i j =
      same (assuming (asking s b) a) (vars-assuming (asking s b) a ∙ vars-asking s b)
      (assuming-sorted g (asking s b) a (asking-sorted g s b h j) (asking-suits g s b a i))

  parted : (a b : TermTree) → suited (signature_at at) at.sequent a ≡ true
      → suited (signature_at at) at.sequent b ≡ true → IsSorted (assuming (assuming at.sequent a) b)
  parted a b i j =
      same (assuming (assuming s a) b) (vars-assuming (assuming s a) b ∙ vars-assuming s a)
      (assuming-sorted g (assuming s a) b (assuming-sorted g s a h i) (assuming-suits g s a b j))

  -- with one more variable
  new : (x : Sort) (p : SequentTree) → list_all is_binder_sort (vars_of at.sequent ++ x ∷ []) ≡ true
      → vars_of p ≡ vars_of at.sequent → is_sorted (wider (signature_at at) x) p ≡ true
      → IsSorted (with_variable x p)
  new x p b e k =
      let over : vars_of (with_variable x p) ≡ vars_of at.sequent ++ x ∷ [] =
      with_variable-vars x p ∙ ap (λ vs. vs ++ x ∷ []) e in (
        ap (list_all is_binder_sort) over ∙ b,
        subst (λ vs. is_sorted (with_variables g g.schemas vs) (with_variable x p) ≡ true)
            (sym over)
            (with_variable-sorted (wider g x) x p k),
      )

  term-suited : (sort : Sort) (a : TermArg) (t : TermTree) → row.IsTerm at sort a t
      → may_stand (signature_at at) (subject_of (body_of at.sequent)) sort t ≡ true
  unfolding standing.may_stand
  term-suited sort a t e = term-stands at sort a t e

  used : (n : ℕ) (args : List TermArg) (side : Side) (F : TermTree) (ts : List TermTree)
      → row.IsLocal at side → row.Offers at n (length args) F → row.AreMessages at args ts
      → may_stand (signature_at at) (subject_of (body_of at.sequent)) Boolean
      (instance_on side ts F) ≡ true
  unfolding standing.may_stand
  used n args side F ts l o m =
      use_stands at.env at.goal n (length args) F o.is_usable
      (offered-stated at n (length args) F kept o)
      s side ts l (messages-stand at args ts m) (messages-count at args ts m)

  -- an equation of a local sequent has its messages
  equation : (u v : TermTree) → row.AsksLocally at (equal u v)
      → (may_stand (signature_at at) (subject_of (body_of at.sequent)) Message u ≡ true)
      × (may_stand (signature_at at) (subject_of (body_of at.sequent)) Message v ≡ true)
  equation u v e =
      let k = goal (equal u v) (local_goal_is s (equal u v) e) in (
        first-stands g about Boolean kind.equality u v k,
        second-stands g about Boolean kind.equality
            u v k,
      )

  asked-equal : (t u v : TermTree) → row.AsksLocally at t
      → may_stand (signature_at at) (subject_of (body_of at.sequent)) Message u ≡ true
      → may_stand (signature_at at) (subject_of (body_of at.sequent)) Message v ≡ true
      → IsSorted (asking at.sequent (equal u v))
  asked-equal t u v e i j =
      let q = on-a-side s t e in
      asked (equal u v) (equal-suited g ok about q.0 u v q.1 i j)

  asked-arguments : (t : TermTree) (f : Kind) (is : List Idx) (us vs : TermTrees)
      → row.AsksLocally at t
      → may_stand (signature_at at) (subject_of (body_of at.sequent)) Message (fun f is us) ≡ true
      → may_stand (signature_at at) (subject_of (body_of at.sequent)) Message (fun f is vs) ≡ true
      → Each IsSorted (arguments_asked at.sequent f 0 us vs)
  asked-arguments t f is us vs e i j =
      let q = on-a-side s t e in
      arguments-stand g ok q.0 s IsSorted
      (λ F k. asked F (subst (λ z. may_stand g z Boolean F ≡ true) (sym q.1) k)) f is us vs
      (subst (λ z. may_stand g z Message (fun f is us) ≡ true) q.1 i)
      (subst (λ z. may_stand g z Message (fun f is vs) ≡ true) q.1 j)

  rewriting : (k : ℕ) (r : Rewriting) (p : Target) (premise : SequentTree)
      → IsTyped (signature_at at) (subject_of (body_of at.sequent)) r → Rewritten at k r p premise
      → IsSorted premise
  rewriting k r _ _ ty (in_goal c e) =
      asked (rewritten r c) (stands-rewritten g about r ty Boolean c (goal c e))
  rewriting k r _ _ ty (in_hypothesis n f other e) =
      let H : List TermTree = slice_set (hyps_of s) n (rewritten r f) in
      same (with_hyps H s) (vars-with s H)
      (with_hyps-sorted g s H h
      (all-set (suited g s) (hyps_of s) n (rewritten r f) (hyps-sorted g s h)
      (stands-rewritten g about r ty Boolean f (hyp-suited g s n f h e))))
  rewriting k r _ _ ty (in_items vars H known items e) =
      same (equiv vars H known (map (item_rewritten r) items)) (sym (ap vars_of e))
      (items-sorted g ok vars H known items r
      (subst (λ q. IsTyped g (subject_of (body_of q)) r) e ty)
      (subst (λ q. is_sorted g q ≡ true) e h))

  pub row-sorted : (x : Step) (ps : List SequentTree) → Row at x ps → Each IsSorted ps
  row-sorted _ _ (row.hyp k t e f) = each_none IsSorted
  row-sorted _ _ (row.true_goal e) = each_none IsSorted
  row-sorted _ _ (row.absurd_hyp k e) = each_none IsSorted
  row-sorted _ _ (row.impi a b e) =
      let k = goal (implies a b) e in
      each_single (assuming (asking s b) a) IsSorted
      (introduced a b (first-stands g about Boolean kind.implication a b k)
      (second-stands g about Boolean kind.implication a b k))
  row-sorted _ _ (row.noti a e) =
      each_single (assuming (asking s falsity) a) IsSorted
      (introduced a falsity (only-stands g about Boolean kind.negation a (goal (negation a) e))
      (falsity-stands g ok about))
  row-sorted _ _ (row.alli x F e) =
      let k = goal (all x F) e in
      let F' : TermTree = opened (new_variable x s) F in
      each_single (with_variable x (asking s F')) IsSorted
      (new x (asking s F') (binders-all g x about F k binders) (vars-asking s F')
      (asking-sorted (wider g x) s F' (sequent-widened g x s h) (all-new g x about F k)))
  row-sorted _ _ (row.andi a b e) =
      let k = goal (both a b) e in
      each_cons (asking s a) (asking s b ∷ []) IsSorted
      (asked a (first-stands g about Boolean kind.conjunction a b k))
      (each_single (asking s b) IsSorted
      (asked b (second-stands g about Boolean kind.conjunction a b k)))
  row-sorted _ _ (row.orl a b e) =
      each_single (asking s a) IsSorted
      (asked a (first-stands g about Boolean kind.disjunction a b (goal (either a b) e)))
  row-sorted _ _ (row.orr a b e) =
      each_single (asking s b) IsSorted
      (asked b (second-stands g about Boolean kind.disjunction a b (goal (either a b) e)))
  row-sorted _ _ (row.exi arg x F w e v) =
      each_single (asking s (opened w F)) IsSorted
      (asked (opened w F) (some-value g x w (value-sort at x arg w v) about F (goal (some x F) e)))
  row-sorted _ _ (row.ande n a b e) =
      let k = hyp-suited g s n (both a b) h e in
      each_single (assuming (assuming s a) b) IsSorted
      (parted a b (first-stands g about Boolean kind.conjunction a b k)
      (second-stands g about Boolean kind.conjunction a b k))
  row-sorted _ _ (row.ore n a b e) =
      let k = hyp-suited g s n (either a b) h e in
      each_cons (assuming s a) (assuming s b ∷ []) IsSorted
      (assumed a (first-stands g about Boolean kind.disjunction a b k))
      (each_single (assuming s b) IsSorted
      (assumed b (second-stands g about Boolean kind.disjunction a b k)))
  row-sorted _ _ (row.impe n a b e) =
      let k = hyp-suited g s n (implies a b) h e in
      each_cons (asking s a) (assuming s b ∷ []) IsSorted
      (asked a (first-stands g about Boolean kind.implication a b k))
      (each_single (assuming s b) IsSorted
      (assumed b (second-stands g about Boolean kind.implication a b k)))
  row-sorted _ _ (row.note n a e) =
      each_single (asking s a) IsSorted
      (asked a (only-stands g about Boolean kind.negation a (hyp-suited g s n (negation a) h e)))
  row-sorted _ _ (row.alle n arg x F w e v) =
      each_single (assuming s (opened w F)) IsSorted
      (assumed (opened w F)
      (all-value g x w (value-sort at x arg w v) about F (hyp-suited g s n (all x F) h e)))
  row-sorted _ _ (row.exe n x F e) =
      let k = hyp-suited g s n (some x F) h e in
      let F' : TermTree = opened (new_variable x s) F in
      each_single (with_variable x (assuming s F')) IsSorted
      (new x (assuming s F') (binders-some g x about F k binders) (vars-assuming s F')
      (assuming-sorted (wider g x) s F' (sequent-widened g x s h) (some-new g x about F k)))
  row-sorted _ _ (row.cut arg F e) =
      let k = term-suited Boolean arg F e in
      each_cons (asking s F) (assuming s F ∷ []) IsSorted (asked F k)
      (each_single (assuming s F) IsSorted (assumed F k))
  row-sorted _ _ (row.em arg F e) =
      let k = term-suited Boolean arg F e in
      each_cons (assuming s F) (assuming s (negation F) ∷ []) IsSorted (assumed F k)
      (each_single (assuming s (negation F)) IsSorted
      (assumed (negation F) (negation-stands g ok about F k)))
  row-sorted _ _ (row.drop n l) =
      let H : List TermTree = without (hyps_of s) n in
      each_single (with_hyps H s) IsSorted
      (same (with_hyps H s) (vars-with s H) (without-sorted g s n h))
  row-sorted _ _ (row.use_statement n args side F ts l o m) =
      each_single (assuming s (instance_on side ts F)) IsSorted
      (assumed (instance_on side ts F) (used n args side F ts l o m))
  row-sorted _ _ (row.proj l) =
      each_cons (on_side Left s) (on_side Right s ∷ []) IsSorted
      (same (on_side Left s) (vars-side s Left) (proj-sorted g ok s Left l h))
      (each_single (on_side Right s) IsSorted
      (same (on_side Right s) (vars-side s Right) (proj-sorted g ok s Right l h)))
  row-sorted _ _ (row.of_trace c a) =
      let q : SequentTree = trace (vars_of s) (pure_ones (hyps_of s)) c in
      each_single q IsSorted
      (same q refl
      (and_both (list_all (may_stand g of_trace Boolean) (pure_ones (hyps_of s))) _
      (pure_ones-sorted g s (hyps_of s) (hyps-sorted g s h))
      (trace-goal g ok (body_of s) c a (body-sorted g s h))))
  row-sorted _ _ (row.itself e) = each_none IsSorted
  row-sorted _ _ (row.sym u v e) =
      let k = equation u v e in
      each_single (asking s (equal v u)) IsSorted (asked-equal (equal u v) v u e k.1 k.0)
  row-sorted _ _ (row.trans arg u w v e t) =
      let k = equation u v e in
      let m = term-suited Message arg w t in
      each_cons (asking s (equal u w)) (asking s (equal w v) ∷ []) IsSorted
      (asked-equal (equal u v) u w e k.0 m)
      (each_single (asking s (equal w v)) IsSorted (asked-equal (equal u v) w v e m k.1))
  row-sorted _ _ (row.arg f is us vs n e) =
      let k = equation (fun f is us) (fun f is vs) e in
      asked-arguments (equal (fun f is us) (fun f is vs)) f is us vs e k.0 k.1
  row-sorted _ _ (row.rew n d p f r premise e q w) =
      each_single premise IsSorted
      (rewriting n (turned d r) p premise
      (turned-typed g about d r (typed g at f r q (hyp-suited g s n f h e))) w)
  row-sorted _ _ (row.fact arg side x t F l m q) =
      let on = subject-on (body_of s) side l in
      each_single (assuming s F) IsSorted
      (assumed F
      (subst (λ z. may_stand g z Boolean F ≡ true) (sym on)
      (fact-stands g side x t F ok q
      (subst (λ z. may_stand g z x t ≡ true) on (term-suited x arg t m)))))

-- ---- well-formed for a goal

fit-at : (ps : List SequentTree) → all_fit ps ≡ true → Each (λ p. fits p ≡ true) ps
fit-at [] h = each_none (λ p. fits p ≡ true)
fit-at (q ∷ qs) h =
    let k = and_split (fits q) (all_fit qs) h in
    each_cons q qs (λ p. fits p ≡ true) k.0 (fit-at qs k.1)

-- the signature of the goal's system and statement
pub signature-is : (at : Site) (st : StmtTree) (system : SystemTree) (vars : List Sort)
    → slice_get at.env.stmts at.goal ≡ Some st → slice_get at.env.systems st.system ≡ Some system
    → signature_of at.env system (length st.schemas) vars
    ≡ signature_of at.env (system_of at.env at.goal)
    (length (statement_at at.env at.goal).schemas) vars
signature-is at st system vars e h =
    let p : statement_at at.env at.goal ≡ st =
    get_or_from_slice_get at.env.stmts at.goal st no_statement e in
    let q : get_or at.env.systems st.system no_actions ≡ system =
    get_or_from_slice_get at.env.systems st.system system no_actions h in
    ap (λ x. signature_of at.env x (length st.schemas) vars) (sym q)
    ∙ ap (λ (r : StmtTree). signature_of at.env (get_or at.env.systems r.system no_actions)
    (length r.schemas) vars) (sym p)

module _ (at : Site) (kept : is_environment at.env ≡ true) (x : Step) (ps : List SequentTree)
    (r : Row at x ps) (fit : all_fit ps ≡ true) where
  of-system : (st : StmtTree) (o : Option SystemTree) → slice_get at.env.stmts at.goal ≡ Some st
      → slice_get at.env.systems st.system ≡ o
      → is_sequent_of at.env o (length st.schemas) at.sequent ≡ true
      → Each (λ p. is_sequent_of at.env o (length st.schemas) p ≡ true) ps
  of-system st None e q h = absurd (cc)
  of-system st (Some system) e q h =
      let n : ℕ = length st.schemas in
      let v = and_split (list_all is_binder_sort (vars_of at.sequent)) _ h in
      let w = and_split (is_sorted (signature_of at.env system n (vars_of at.sequent)) at.sequent)
      (fits at.sequent) v.1 in
      let sorted : is_sorted (signature_at at) at.sequent ≡ true =
      subst (λ g. is_sorted g at.sequent ≡ true)
      (signature-is at st system (vars_of at.sequent) e q) w.0 in
      let each = row-sorted at kept v.0 sorted x ps r in
      λ p i.
      let k = each p i in
      and_both (list_all is_binder_sort (vars_of p)) _ k.0
      (and_both (is_sorted (signature_of at.env system n (vars_of p)) p) (fits p)
      (subst (λ g. is_sorted g p ≡ true) (sym (signature-is at st system (vars_of p) e q)) k.1)
      (fit-at ps fit p i))

  of-statement : (o : Option StmtTree) → slice_get at.env.stmts at.goal ≡ o
      → is_well_formed_for at.env o at.sequent ≡ true
      → Each (λ p. is_well_formed_for at.env o p ≡ true) ps
  of-statement None e h = absurd (cc)
  of-statement (Some st) e h = of-system st (slice_get at.env.systems st.system) e refl h

pub preserved : (at : Site) (x : Step) → is_environment at.env ≡ true → PreservedByRows at x
preserved at x kept ps h r fit =
    of-statement at kept x ps r fit (slice_get at.env.stmts at.goal) refl h
