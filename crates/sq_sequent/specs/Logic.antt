-- The logic rows of the calculus: the premises that a step leaves of a sequent.
use Rattle.std.specs.Prelude.{ℕ, ◌==◌, nat_lt, length, Bool, true, false, if◌then◌else◌, ◌&&◌}
use Rattle.std.specs.Prelude.{List, [], ◌∷◌, map, Option, Some, None, Result, Ok, Err}
use Rattle.std.specs.Cmp.Lexicographic.{pointwise}
use Rattle.sq_base.specs.declared.sort.Sort.TheVariants.{Message, Boolean}
use Rattle.sq_term.specs.Arguments.{ArgTree}
use Rattle.sq_term.specs.declared.term.Side.TheVariants as side
use Rattle.sq_term.specs.Formulas.{truth, falsity, negation, both, either, implies, equal}
use Rattle.sq_term.specs.Measure.{count_terms}
use Rattle.sq_system.specs.Limits.{most_nodes}
use Rattle.sq_term.specs.Symbols.{same_kind}
use Rattle.sq_term.specs.Syntax.{TermTree, fun, ts_eq, idx_eq, all, some}
use Rattle.sq_term.specs.TreeEquality.{is_same_tree}
use Rattle.sq_term.specs.TsEquality.{is_same_idx, is_same_ts_tree}
use Rattle.sq_system.specs.declared.sequent.Sequent.{Sequent}
use Rattle.sq_system.specs.Sequents.{SequentTree, trace, local, equiv, sequent_tree, hyps_of}
use Rattle.sq_system.specs.Sizes.{all_fit}
use Rattle.sq_subst.specs.Room as room
use Rattle.sq_subst.specs.Substitution.{opened}
use Rattle.sq_system.specs.declared.fault.RuleFault.{RuleFault}
use Rattle.sq_system.specs.declared.fault.RuleFault.TheVariants.{Shape, TooLarge}
use Rattle.sq_step.specs.declared.step.Step.{Step}
use Rattle.sq_step.specs.declared.step.Step.TheVariants as step
use Rattle.sq_step.specs.declared.step.ValArg.{ValArg}
use Rattle.sq_sequent.specs.Site.{Site}
use Rattle.sq_sequent.specs.Standing.{term_in, value_in}
use Rattle.sq_sequent.specs.Sides.{on_side}
use Rattle.sq_sequent.specs.Facts.{fact_row}
use Rattle.sq_sequent.specs.Uses.{use_row}
use Rattle.sq_sequent.specs.RewriteRow.{rewriting_of, rew_row}
use Rattle.sq_sequent.specs.Views.{hyp_of, goal_of, local_goal_of}
use Rattle.sq_sequent.specs.Premises.{asking, assuming, with_hyps, with_variable, new_variable}
use Rattle.sq_sequent.specs.Premises.{without, pure_ones, pure_or_false, arguments_asked}

abbrev pub sequent_trees : List Sequent → List SequentTree
sequent_trees ss = map sequent_tree ss

-- a row without premises
abbrev pub closing_row : Bool → Option (List SequentTree)
closing_row applies = if applies then Some [] else None

-- hyp: the goal is the hypothesis
abbrev pub hyp_row : Option TermTree → Option TermTree → Option (List SequentTree)
hyp_row (Some g) (Some h) = closing_row (is_same_tree g h)
hyp_row _ _ = None

-- true: the goal is true
unfoldable pub true_row : Option TermTree → Option (List SequentTree)
true_row (Some truth) = Some []
true_row _ = None

-- absurd: the hypothesis is false
unfoldable pub absurd_row : Option TermTree → Option (List SequentTree)
absurd_row (Some falsity) = Some []
absurd_row _ = None

-- drop: of a hypothesis
abbrev pub drop_row : SequentTree → ℕ → Option (List SequentTree)
drop_row s h =
    if nat_lt h (length (hyps_of s)) then Some (with_hyps (without (hyps_of s) h) s ∷ []) else None

-- proj: a local sequent of both sides, as it is read on each
abbrev pub proj_row : SequentTree → Option (List SequentTree)
proj_row (trace vars hyps g) = None
proj_row (local side.Both vars hyps g) =
    Some (on_side side.Left (local side.Both vars hyps g)
    ∷ on_side side.Right (local side.Both vars hyps g) ∷ [])
proj_row (local side.Left vars hyps g) = None
proj_row (local side.Right vars hyps g) = None
proj_row (equiv vars hyps known items) = None

-- trace: what the sequent says of the trace alone
abbrev pub trace_row : SequentTree → Option (List SequentTree)
trace_row (trace vars hyps g) = None
trace_row (local side vars hyps g) = Some (trace vars (pure_ones hyps) (pure_or_false g) ∷ [])
trace_row (equiv vars hyps known items) = Some (trace vars (pure_ones hyps) falsity ∷ [])

-- refl: the goal is `u = u`. No message equation is a trace formula.
unfoldable pub is_reflexive : Bool → TermTree → Bool
is_reflexive messages (equal a b) = messages && is_same_tree a b
is_reflexive messages (ts_eq t u) = is_same_ts_tree t u
is_reflexive messages (idx_eq i j) = is_same_idx i j
is_reflexive messages _ = false

abbrev pub refl_row : SequentTree → Option (List SequentTree)
refl_row (trace vars hyps g) = closing_row (is_reflexive false g)
refl_row (local side vars hyps g) = closing_row (is_reflexive true g)
refl_row (equiv vars hyps known items) = None

module _ (s : SequentTree) where
  -- impi: the goal is `a => b`
  unfoldable pub impi_row : Option TermTree → Option (List SequentTree)
  impi_row (Some (implies a b)) = Some (assuming (asking s b) a ∷ [])
  impi_row _ = None

  -- noti: the goal is `not(a)`
  unfoldable pub noti_row : Option TermTree → Option (List SequentTree)
  noti_row (Some (negation a)) = Some (assuming (asking s falsity) a ∷ [])
  noti_row _ = None

  -- alli: the goal is `forall x, F`
  unfoldable pub alli_row : Option TermTree → Option (List SequentTree)
  alli_row (Some (all x F)) =
      Some (with_variable x (asking s (opened (new_variable x s) F)) ∷ [])
  alli_row _ = None

  -- andi: the goal is `a && b`
  unfoldable pub andi_row : Option TermTree → Option (List SequentTree)
  andi_row (Some (both a b)) = Some (asking s a ∷ asking s b ∷ [])
  andi_row _ = None

  -- orl and orr: the goal is `a || b`
  unfoldable pub orl_row : Option TermTree → Option (List SequentTree)
  orl_row (Some (either a b)) = Some (asking s a ∷ [])
  orl_row _ = None

  unfoldable pub orr_row : Option TermTree → Option (List SequentTree)
  orr_row (Some (either a b)) = Some (asking s b ∷ [])
  orr_row _ = None

  -- ande: the hypothesis is `a && b`
  unfoldable pub ande_row : Option TermTree → Option (List SequentTree)
  ande_row (Some (both a b)) = Some (assuming (assuming s a) b ∷ [])
  ande_row _ = None

  -- ore: the hypothesis is `a || b`
  unfoldable pub ore_row : Option TermTree → Option (List SequentTree)
  ore_row (Some (either a b)) = Some (assuming s a ∷ assuming s b ∷ [])
  ore_row _ = None

  -- impe: the hypothesis is `a => b`
  unfoldable pub impe_row : Option TermTree → Option (List SequentTree)
  impe_row (Some (implies a b)) = Some (asking s a ∷ assuming s b ∷ [])
  impe_row _ = None

  -- note: the hypothesis is `not(a)`
  unfoldable pub note_row : Option TermTree → Option (List SequentTree)
  note_row (Some (negation a)) = Some (asking s a ∷ [])
  note_row _ = None

  -- exe: the hypothesis is `exists x, F`
  unfoldable pub exe_row : Option TermTree → Option (List SequentTree)
  exe_row (Some (some x F)) =
      Some (with_variable x (assuming s (opened (new_variable x s) F)) ∷ [])
  exe_row _ = None

  -- cut and em: of a formula
  abbrev pub cut_row : Option TermTree → Option (List SequentTree)
  cut_row None = None
  cut_row (Some F) = Some (asking s F ∷ assuming s F ∷ [])

  abbrev pub em_row : Option TermTree → Option (List SequentTree)
  em_row None = None
  em_row (Some F) = Some (assuming s F ∷ assuming s (negation F) ∷ [])

  -- sym: the goal is a message equation of a local sequent
  unfoldable pub sym_row : Option TermTree → Option (List SequentTree)
  sym_row (Some (equal u v)) = Some (asking s (equal v u) ∷ [])
  sym_row _ = None

  -- trans: the same, with a message between
  unfoldable pub trans_row : Option TermTree → Option TermTree → Option (List SequentTree)
  trans_row (Some (equal u v)) (Some w) = Some (asking s (equal u w) ∷ asking s (equal w v) ∷ [])
  trans_row _ _ = None

  -- arg: the goal of a local sequent is `f(us) = f(vs)`, with the same indices
  unfoldable pub applications_row : TermTree → TermTree → Option (List SequentTree)
  applications_row (fun f is us) (fun g js vs) =
      if same_kind f g && (pointwise is_same_idx is js && (count_terms us == count_terms vs))
      then Some (arguments_asked s f 0 us vs) else None
  applications_row t u = None

  unfoldable pub arg_row : Option TermTree → Option (List SequentTree)
  arg_row (Some (equal t u)) = applications_row t u
  arg_row _ = None

module _ (at : Site) where
  -- exi: the goal is `exists x, F`, of a value for x
  abbrev pub asked_at : TermTree → Option ArgTree → Option (List SequentTree)
  asked_at F None = None
  asked_at F (Some w) = Some (asking at.sequent (opened w F) ∷ [])

  unfoldable pub exi_row : ValArg → Option TermTree → Option (List SequentTree)
  exi_row w (Some (some x F)) = asked_at F (value_in at x w)
  exi_row w _ = None

  -- alle: the hypothesis is `forall x, F`, of a value for x
  abbrev pub assumed_at : TermTree → Option ArgTree → Option (List SequentTree)
  assumed_at F None = None
  assumed_at F (Some w) = Some (assuming at.sequent (opened w F) ∷ [])

  unfoldable pub alle_row : ValArg → Option TermTree → Option (List SequentTree)
  alle_row w (Some (all x F)) = assumed_at F (value_in at x w)
  alle_row w _ = None

-- the premises of a step, where its row applies
unfoldable pub logic_row : Site → Step → Option (List SequentTree)
logic_row at (step.Hyp h) = hyp_row (goal_of at.sequent) (hyp_of at.sequent h)
logic_row at step.True = true_row (goal_of at.sequent)
logic_row at (step.Absurd h) = absurd_row (hyp_of at.sequent h)
logic_row at step.Impi = impi_row at.sequent (goal_of at.sequent)
logic_row at step.Noti = noti_row at.sequent (goal_of at.sequent)
logic_row at step.Alli = alli_row at.sequent (goal_of at.sequent)
logic_row at step.Andi = andi_row at.sequent (goal_of at.sequent)
logic_row at step.Orl = orl_row at.sequent (goal_of at.sequent)
logic_row at step.Orr = orr_row at.sequent (goal_of at.sequent)
logic_row at (step.Exi w) = exi_row at w (goal_of at.sequent)
logic_row at (step.Ande h) = ande_row at.sequent (hyp_of at.sequent h)
logic_row at (step.Ore h) = ore_row at.sequent (hyp_of at.sequent h)
logic_row at (step.Impe h) = impe_row at.sequent (hyp_of at.sequent h)
logic_row at (step.Note h) = note_row at.sequent (hyp_of at.sequent h)
logic_row at (step.Alle h w) = alle_row at w (hyp_of at.sequent h)
logic_row at (step.Exe h) = exe_row at.sequent (hyp_of at.sequent h)
logic_row at (step.Cut F) = cut_row at.sequent (term_in at Boolean F)
logic_row at (step.Em F) = em_row at.sequent (term_in at Boolean F)
logic_row at (step.Drop h) = drop_row at.sequent h
logic_row at (step.UseStmt k ws) = use_row at k ws
logic_row at step.Proj = proj_row at.sequent
logic_row at step.Trace = trace_row at.sequent
logic_row at step.Refl = refl_row at.sequent
logic_row at step.Sym = sym_row at.sequent (local_goal_of at.sequent)
logic_row at (step.Trans w) =
    trans_row at.sequent (local_goal_of at.sequent) (term_in at Message w)
logic_row at step.Arg = arg_row at.sequent (local_goal_of at.sequent)
logic_row at (step.Rew h d p) =
    rew_row at.sequent h p (rewriting_of at.sequent d (hyp_of at.sequent h))
logic_row at (step.Fact t) = fact_row at t
logic_row at _ = None

-- the term, or TooLarge where no sequent may hold it
abbrev pub held : TermTree → Result TermTree RuleFault
held t = if room.fits most_nodes t then Ok t else Err TooLarge

unfoldable pub within_limits : List SequentTree → Result (List SequentTree) RuleFault
within_limits ps = if all_fit ps then Ok ps else Err TooLarge

-- no premises is the reason Shape, a premise past the limits the reason TooLarge
abbrev pub judged : Option (List SequentTree) → Result (List SequentTree) RuleFault
judged None = Err Shape
judged (Some ps) = within_limits ps

-- the calculus on its logic rows: premises, or the first reason why there are none
unfoldable pub logic_premises : Site → Step → Result (List SequentTree) RuleFault
logic_premises at step = judged (logic_row at step)
