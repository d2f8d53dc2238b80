-- The logic rows are sound: where each premise holds, the sequent does.
use Rattle.std.proofs.Common.{◌≡◌, ◌⊎◌, inl, inr, refl, sym, subst, ℕ, List, [], map}
use Rattle.std.proofs.Common.{length, get_or, Option, Some, None, Bool, true, false}
use Rattle.std.specs.Prelude.{slice_get, if◌then◌else◌}
use Rattle.std.specs.List.{list_all}
use Rattle.std.proofs.lemmas.Option.{get_or_from_slice_get}
use Rattle.sq_base.specs.declared.sort.Sort.{Sort}
use Rattle.sq_term.specs.declared.model.Model.{Model}
use Rattle.sq_term.specs.Closed.{is_closed}
use Rattle.sq_term.specs.Formulas.{truth, falsity, negation, both, either, implies, equal}
use Rattle.sq_term.specs.Ground.{Ground}
use Rattle.sq_term.specs.Lists.{Member, here, there, Each}
use Rattle.sq_term.specs.Pure.{is_binder_sort}
use Rattle.sq_term.specs.Syntax.{TermTree, fun, all, some}
use Rattle.sq_term.specs.Systems.{SystemTree}
use Rattle.sq_term.specs.Translate.{Assignment, translate}
use Rattle.sq_term.proofs.BoolTests.{and_split}
use Rattle.sq_term.proofs.Members.{each-map, member-map}
use Rattle.sq_typing.specs.Functions.{are_functions}
use Rattle.sq_typing.specs.Typing.{Signature}
use Rattle.sq_typing.proofs.Formulas.{sort-of}
use Rattle.sq_system.specs.Sequents.{SequentTree, trace, local, equiv, vars_of, hyps_of, body_of}
use Rattle.sq_system.specs.Sizes.{fits}
use Rattle.sq_system.specs.Statements.{StmtTree, EnvTree, no_actions}
use Rattle.sq_system.specs.Usable.{no_statement, statement_at}
use Rattle.sq_system.specs.Scopes.{signature_of, subject_of}
use Rattle.sq_system.specs.WellFormed.{is_sorted, is_sequent_of}
use Rattle.sq_system.specs.WellFormed.{is_well_formed_for, is_well_formed, is_environment}
use Rattle.sq_system.proofs.EnvLaws.{environment_parts}
use Rattle.sq_ground.specs.Goals.{theory_of}
use Rattle.sq_ground.specs.Holding.{HoldsAt}
use Rattle.sq_ground.specs.Theories.{Theory, world_at}
use Rattle.sq_ground.specs.Truth.{value}
use Rattle.sq_ground.proofs.Propositional.{if_from, if_to, not_from, not_to, and_from, and_left}
use Rattle.sq_ground.proofs.Propositional.{and_right, or_left, or_right, or_cases}
use Rattle.sq_ground.proofs.Propositional as ground_rule
use Rattle.sq_step.specs.declared.step.Step.{Step}
use Rattle.sq_step.specs.declared.step.TermArg.{TermArg}
use Rattle.sq_sequent.specs.Premises.{with_hyps, without}
use Rattle.sq_sequent.specs.Rows.{Row, Assumes, IsTerm}
use Rattle.sq_sequent.specs.Site.{Site}
use Rattle.sq_sequent.specs.Standing.{signature_at, may_stand}
use Rattle.sq_sequent.specs.Views.{goal_of, local_goal_of, hyp_of}
use Rattle.sq_formula.proofs.ClosedSorts.{sorted-closed}
use Rattle.sq_sequent.proofs.Hypotheses.{get_member, member-without}
use Rattle.sq_sequent.proofs.Terms.{term-stands}
use Rattle.sq_sequent.proofs.Values.{value-sort}
use Rattle.sq_rules_logic.specs.Soundness.{EarlierHoldAt, PremisesSuffice, RowSound}
use Rattle.sq_rules_logic.proofs.Domains.{placed_times}
use Rattle.sq_rules_logic.proofs.EquationSound.{itself_sound, sym_sound, trans_sound, arg_sound}
use Rattle.sq_rules_logic.proofs.FactSound.{known_sound, fact_known}
use Rattle.sq_rules_logic.proofs.Holding.{TrueIn, AllTrueIn, hyp_true, assume_both_sound}
use Rattle.sq_rules_logic.proofs.Holding.{absurd_sound, cut_sound, contrary_sound, cases_sound}
use Rattle.sq_rules_logic.proofs.Holding.{goal_sound, asked_sound, both_asked_sound, intro_sound}
use Rattle.sq_rules_logic.proofs.QuantifierSound.{alli_sound, exi_sound, alle_sound, exe_sound}
use Rattle.sq_rules_logic.proofs.RewriteSound.{rew_sound}
use Rattle.sq_rules_logic.proofs.SideSound.{proj_sound, trace_sound}
use Rattle.sq_rules_logic.proofs.Sorted.{goal-stands}
use Rattle.sq_rules_logic.proofs.UseSound.{use_sound}

-- ---- a well-formed sequent is well-sorted at its site

statement_of : (env : EnvTree) (goal : ℕ) (s : SequentTree) (o : Option StmtTree)
    → slice_get env.stmts goal ≡ o → is_well_formed_for env o s ≡ true
    → is_sequent_of env (slice_get env.systems (statement_at env goal).system)
    (length (statement_at env goal).schemas) s ≡ true
statement_of env goal s None e h = let z : false ≡ true = h in absurd (cc)
statement_of env goal s (Some st) e h =
    let there : statement_at env goal
    ≡ st = get_or_from_slice_get env.stmts goal st no_statement e in
    subst
    (λ (q : StmtTree). is_sequent_of env (slice_get env.systems q.system) (length q.schemas) s
    ≡ true)
    (sym there) h

sorted_over : (env : EnvTree) (n schemas : ℕ) (s : SequentTree) (o : Option SystemTree)
    → slice_get env.systems n ≡ o → is_sequent_of env o schemas s ≡ true
    → is_sorted (signature_of env (get_or env.systems n no_actions) schemas (vars_of s)) s ≡ true
sorted_over env n schemas s None e h = let z : false ≡ true = h in absurd (cc)
sorted_over env n schemas s (Some x) e h =
    let there : get_or env.systems n no_actions
    ≡ x = get_or_from_slice_get env.systems n x no_actions e in
    let g : Signature = signature_of env x schemas (vars_of s) in
    subst (λ y. is_sorted (signature_of env y schemas (vars_of s)) s ≡ true) (sym there)
    (and_split (is_sorted g s) (fits s) (and_split (list_all is_binder_sort (vars_of s)) _ h).1).0

pub sorted_at : (at : Site) → is_well_formed at.env at.goal at.sequent ≡ true
    → is_sorted (signature_at at) at.sequent ≡ true
sorted_at at h =
    sorted_over at.env (statement_at at.env at.goal).system
    (length (statement_at at.env at.goal).schemas) at.sequent
    (slice_get at.env.systems (statement_at at.env at.goal).system) refl
    (statement_of at.env at.goal at.sequent (slice_get at.env.stmts at.goal) refl h)

-- ---- hypotheses

one_of_both : (b : Bool) → (b ≡ true) ⊎ ((if b then false else true) ≡ true)
one_of_both true = inl refl
one_of_both false = inr refl

-- hypothesis h is true where all are
at_hyp : (th : Theory) (at : Site) (h : ℕ) (f : TermTree) → Assumes at h f → (left : Bool)
    (a : Assignment) (v : Ground → Bool) → AllTrueIn th left a v (hyps_of at.sequent)
    → TrueIn th left a v f
unfolding hyp_of
at_hyp th at h f e left a v hyps =
    hyp_true th (hyps_of at.sequent) f (get_member (hyps_of at.sequent) h f e) left a v hyps

assumed : (at : Site) (h : ℕ) (f : TermTree) → Assumes at h f → Member (hyps_of at.sequent) f
unfolding hyp_of
assumed at h f e = get_member (hyps_of at.sequent) h f e

-- fewer hypotheses
fewer_sound : (th : Theory) (s : SequentTree) (G : List TermTree) → Each (Member (hyps_of s)) G
    → HoldsAt th (with_hyps G s) → HoldsAt th s
unfolding with_hyps
fewer_sound th (trace vars H g) G sub p = λ a f h. p a f (λ x i. h x (sub x i))
fewer_sound th (local side vars H g) G sub p = λ a f left m.
    let read : TermTree → Ground = translate (world_at th left) a [] in
    ground_rule.drop th left (map read G) (map read H) (read g)
    (each-map read G (Member (map read H)) (λ x i. member-map read H x (sub x i))) (p a f left m)
fewer_sound th (equiv vars H known items) G sub p = λ a f h k. p a f (λ x i. h x (sub x i)) k

local_is_goal : (s : SequentTree) (g : TermTree) → local_goal_of s ≡ Some g → goal_of s ≡ Some g
unfolding local_goal_of goal_of
local_is_goal (trace vars H c) g e = absurd (cc)
local_is_goal (local side vars H c) g e = e
local_is_goal (equiv vars H known items) g e = absurd (cc)

-- ---- the rows

module _ (at : Site) (kept : is_environment at.env ≡ true)
    (formed : is_well_formed at.env at.goal at.sequent ≡ true) (m : Model)
    (earlier : EarlierHoldAt at.env at.goal m) where
  abbrev th : Theory
  th = theory_of at.env at.goal m

  abbrev s : SequentTree
  s = at.sequent

  abbrev g : Signature
  g = signature_at at

  abbrev Holds : SequentTree → Type 0
  Holds = HoldsAt th

  functions : are_functions g.funs ≡ true
  functions = (environment_parts at.env kept).0

  sorted : is_sorted g s ≡ true
  sorted = sorted_at at formed

  term_closed : (sort : Sort) (arg : TermArg) (t : TermTree) → IsTerm at sort arg t
      → is_closed 0 t ≡ true
  unfolding may_stand
  term_closed sort arg t e =
      sorted-closed g sort t
      (sort-of g (subject_of (body_of s)) sort t (term-stands at sort arg t e))

  suffice : (step : Step) (ps : List SequentTree) → Row at step ps → Each Holds ps → Holds s
  suffice step ps (Row.hyp h f e a) p =
      goal_sound th s f e (λ left w fit v hyps. at_hyp th at h f a left w v hyps)
  suffice step ps (Row.true_goal e) p = goal_sound th s truth e (λ left w fit v hyps. refl)
  suffice step ps (Row.absurd_hyp h a) p =
      absurd_sound th s (λ left w fit v hyps. at_hyp th at h falsity a left w v hyps)
  suffice step ps (Row.impi a b e) p =
      intro_sound th s (implies a b) e a b (λ left w fit v hyps i. if_from _ _ i) (p _ here)
  suffice step ps (Row.noti a e) p =
      intro_sound th s (negation a) e a falsity (λ left w fit v hyps i. not_from _ i) (p _ here)
  suffice step ps (Row.alli x F e) p = alli_sound th g x F s refl sorted e (p _ here)
  suffice step ps (Row.andi a b e) p =
      both_asked_sound th s (both a b) e a b (λ left w fit v hyps i j. and_from _ _ i j)
      (p _ here) (p _ (there here))
  suffice step ps (Row.orl a b e) p =
      asked_sound th s (either a b) e a (λ left w fit v hyps i. or_left _ _ i) (p _ here)
  suffice step ps (Row.orr a b e) p =
      asked_sound th s (either a b) e b (λ left w fit v hyps i. or_right _ _ i) (p _ here)
  suffice step ps (Row.exi arg x F w e v) p =
      exi_sound th (placed_times m) g s refl x F w (value-sort at x arg w v) e (p _ here)
  suffice step ps (Row.ande h a b e) p =
      assume_both_sound th s a b
      (λ left w fit v hyps. and_left _ _ (at_hyp th at h (both a b) e left w v hyps))
      (λ left w fit v hyps. and_right _ _ (at_hyp th at h (both a b) e left w v hyps)) (p _ here)
  suffice step ps (Row.ore h a b e) p =
      cases_sound th s a b
      (λ left w fit v hyps.
      or_cases _ _ (at_hyp th at h (either a b) e left w v hyps) (λ i. inl i) (λ j. inr j))
      (p _ here) (p _ (there here))
  suffice step ps (Row.impe h a b e) p =
      cut_sound th s a b
      (λ left w fit v hyps i. if_to _ _ (at_hyp th at h (implies a b) e left w v hyps) i)
      (p _ here) (p _ (there here))
  suffice step ps (Row.note h a e) p =
      contrary_sound th s a
      (λ left w fit v hyps i. not_to _ (at_hyp th at h (negation a) e left w v hyps) i) (p _ here)
  suffice step ps (Row.alle h arg x F w e v) p =
      alle_sound th (placed_times m) g s refl x F w (value-sort at x arg w v)
      (assumed at h (all x F) e) (p _ here)
  suffice step ps (Row.exe h x F e) p =
      exe_sound th g x F s refl sorted (assumed at h (some x F) e) (p _ here)
  suffice step ps (Row.cut arg F t) p =
      cut_sound th s F F (λ left w fit v hyps i. i) (p _ here) (p _ (there here))
  suffice step ps (Row.em arg F t) p =
      cases_sound th s F (negation F)
      (λ left w fit v hyps. one_of_both (value v (translate (world_at th left) w [] F)))
      (p _ here) (p _ (there here))
  suffice step ps (Row.drop h l) p =
      fewer_sound th s (without (hyps_of s) h) (λ x i. member-without (hyps_of s) h x i) (p _ here)
  suffice step ps (Row.use_statement k args side F ts on offer given) p =
      use_sound at m kept earlier k args side F ts on offer given (p _ here)
  suffice step ps (Row.proj on) p = proj_sound th s on (p _ here) (p _ (there here))
  suffice step ps (Row.of_trace c e) p = trace_sound th s c e (p _ here)
  suffice step ps (Row.itself e) p = itself_sound th at e
  suffice step ps (Row.sym u v e) p = sym_sound th s u v e (p _ here)
  suffice step ps (Row.trans arg u w v e t) p =
      trans_sound th s u w v e (p _ here) (p _ (there here))
  suffice step ps (Row.arg f is us vs n e) p =
      arg_sound th g refl functions s (subject_of (body_of s)) f is us vs
      (goal-stands g s (equal (fun f is us) (fun f is vs)) sorted
      (local_is_goal s (equal (fun f is us) (fun f is vs)) e)) e n p
  suffice step ps (Row.rew h d t f r premise a e made) p =
      rew_sound th g refl functions at h d t f r premise sorted a e made (p _ here)
  suffice step ps (Row.fact arg side x t F on e known) p =
      known_sound th s side F on
      (λ left i w fit. fact_known th x t F (term_closed x arg t e) known left w) (p _ here)

-- the logic rows rest on what a test says of the environment alone
pub row_suffices : (at : Site) (step : Step) (premises : List SequentTree)
    → is_environment at.env ≡ true → Row at step premises → PremisesSuffice at premises
row_suffices at step ps kept row formed m model earlier holds =
    suffice at kept formed m earlier step ps row holds

pub row_sound : RowSound
row_sound at step ps kept row = row_suffices at step ps kept.well_formed row
