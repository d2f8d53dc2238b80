-- The logic rows of the calculus: which premises a step leaves of a sequent.
use Rattle.std.specs.Prelude.{◌≡◌, ◌≢◌, ◌<◌, ℕ, length, true, List, [], ◌∷◌, map, Some}
use Rattle.std.specs.Prelude.{slice_get, slice_set}
use Rattle.sq_base.specs.declared.sort.Sort.{Sort}
use Rattle.sq_base.specs.declared.sort.Sort.TheVariants.{Message, Boolean}
use Rattle.sq_term.specs.declared.term.Idx.{Idx}
use Rattle.sq_term.specs.declared.term.Side.{Side}
use Rattle.sq_term.specs.declared.term.Side.TheVariants as side
use Rattle.sq_term.specs.Arguments.{ArgTree}
use Rattle.sq_term.specs.Formulas.{truth, falsity, negation, both, either}
use Rattle.sq_term.specs.Formulas.{implies, equal, equivalent}
use Rattle.sq_term.specs.Measure.{count_terms}
use Rattle.sq_term.specs.Symbols.{Kind}
use Rattle.sq_term.specs.Syntax.{TsTree, TermTree, fun, ts_eq, idx_eq, all, some, TermTrees}
use Rattle.sq_subst.specs.Substitution.{opened}
use Rattle.sq_system.specs.Sequents.{Item, Body, trace_body, local_body, equiv_body, SequentTree}
use Rattle.sq_system.specs.Sequents.{trace, equiv, vars_of, hyps_of, body_of}
use Rattle.sq_system.specs.Sizes.{all_fit}
use Rattle.sq_system.specs.Statements.{StmtTree}
use Rattle.sq_system.specs.Usable.{usable, states_a_formula}
use Rattle.sq_formula.specs.Facts.{HasFact}
use Rattle.sq_step.specs.declared.step.Dir.{Dir}
use Rattle.sq_step.specs.declared.step.Step.{Step}
use Rattle.sq_step.specs.declared.step.Step.TheVariants as step
use Rattle.sq_step.specs.declared.step.Target.{Target}
use Rattle.sq_step.specs.declared.step.Target.TheVariants as target
use Rattle.sq_step.specs.declared.step.TermArg.{TermArg}
use Rattle.sq_step.specs.declared.step.ValArg.{ValArg}
use Rattle.sq_sequent.specs.Site.{Site}
use Rattle.sq_sequent.specs.Views.{goal_of, local_goal_of, hyp_of}
use Rattle.sq_sequent.specs.Standing.{term_in, value_in}
use Rattle.sq_sequent.specs.Premises.{asking, assuming, with_hyps, with_variable, new_variable}
use Rattle.sq_sequent.specs.Premises.{without, pure_ones, pure_or_false, arguments_asked}
use Rattle.sq_sequent.specs.Sides.{on_side, instance_on}
use Rattle.sq_sequent.specs.Rewriting.{Rewriting, term_by, time_by, index_by, turned, rewritten}
use Rattle.sq_sequent.specs.Rewriting.{item_rewritten}

-- ---- what a row asks of the sequent

-- the goal of a Trace or a Local sequent, and of a Local one alone
abbrev pub Asks : Site → TermTree → Type 0
Asks at g = goal_of at.sequent ≡ Some g

abbrev pub AsksLocally : Site → TermTree → Type 0
AsksLocally at g = local_goal_of at.sequent ≡ Some g

-- the goal is an equation of one message, timestamp or index. No message equation is a trace
-- formula.
pub data AsksItself (at : Site) : Type 0 where
  of_message : (u : TermTree) → AsksLocally at (equal u u) → AsksItself at
  of_time : (t : TsTree) → Asks at (ts_eq t t) → AsksItself at
  of_index : (i : Idx) → Asks at (idx_eq i i) → AsksItself at

-- hypothesis h, counted from 0
abbrev pub Assumes : Site → ℕ → TermTree → Type 0
Assumes at h f = hyp_of at.sequent h ≡ Some f

-- a Local sequent of this side
abbrev pub IsOn : Body → Side → Type 0
IsOn (trace_body g) s = ⊥
IsOn (local_body own g) s = own ≡ s
IsOn (equiv_body known items) s = ⊥

abbrev pub IsLocal : Site → Side → Type 0
IsLocal at s = IsOn (body_of at.sequent) s

-- what an argument gives: a term that may stand in the sequent, and a value for a binder
abbrev pub IsTerm : Site → Sort → TermArg → TermTree → Type 0
IsTerm at sort a t = term_in at sort a ≡ Some t

abbrev pub IsValue : Site → Sort → ValArg → ArgTree → Type 0
IsValue at sort a w = value_in at sort a ≡ Some w

-- each argument gives its message
abbrev pub AreMessages : Site → List TermArg → List TermTree → Type 0
AreMessages at [] [] = Unit {0}
AreMessages at (a ∷ args) (t ∷ ts) = IsTerm at Message a t × AreMessages at args ts
AreMessages at _ _ = ⊥

-- ---- what the wider rows speak of

-- statement k is an axiom or a lemma over n messages that the goal may use, and it says F
pub record Offers (at : Site) (k n : ℕ) (F : TermTree) : Type 0 where
  pub statement : StmtTree
  pub there_is : slice_get at.env.stmts k ≡ Some statement
  pub is_usable : usable at.env at.goal k ≡ true
  pub states : states_a_formula statement.kind ≡ true
  pub count : n ≡ length statement.schemas
  pub says : goal_of statement.start ≡ Some F

-- what is asked of the trace alone: the goal of a Local sequent where it is a trace formula, else
-- false
abbrev pub AsksOfTrace : Body → TermTree → Type 0
AsksOfTrace (trace_body g) c = ⊥
AsksOfTrace (local_body s g) c = c ≡ pure_or_false g
AsksOfTrace (equiv_body known items) c = c ≡ falsity

-- what a hypothesis rewrites, from left to right: an equation, or in a Local sequent an equivalence
pub data Equates (at : Site) : TermTree → Rewriting → Type 0 where
  messages : (u v : TermTree) → Equates at (equal u v) (term_by u v)
  times : (t u : TsTree) → Equates at (ts_eq t u) (time_by t u)
  indices : (i j : Idx) → Equates at (idx_eq i j) (index_by i j)
  formulas : (s : Side) (a b : TermTree) → IsLocal at s → Equates at (equivalent a b) (term_by a b)

-- the goal, another hypothesis than h, or in an equivalence all items, with each occurrence
-- replaced
pub data Rewritten (at : Site) (h : ℕ) (r : Rewriting) : Target → SequentTree → Type 0 where
  in_goal : (g : TermTree) → Asks at g
      → Rewritten at h r target.Goal (asking at.sequent (rewritten r g))
  in_hypothesis : (k : ℕ) (f : TermTree) → k ≢ h → Assumes at k f
      → Rewritten at h r (target.Hyp k)
      (with_hyps (slice_set (hyps_of at.sequent) k (rewritten r f)) at.sequent)
  in_items : (vars : List Sort) (hyps : List TermTree) (known : List (List Item))
      (items : List Item)
      → at.sequent ≡ equiv vars hyps known items
      → Rewritten at h r target.Items (equiv vars hyps known (map (item_rewritten r) items))

-- ---- the rows

-- A step leaves these premises of the sequent where it is taken.
pub data Row (at : Site) : Step → List SequentTree → Type 0 where
  -- the goal is a hypothesis, it is true, or a hypothesis is false
  hyp : (h : ℕ) (g : TermTree) → Asks at g → Assumes at h g → Row at (step.Hyp h) []
  true_goal : Asks at truth → Row at step.True []
  absurd_hyp : (h : ℕ) → Assumes at h falsity → Row at (step.Absurd h) []
  -- the goal is `a => b`, `not(a)`, `forall x, F`, `a && b`, `a || b`, `exists x, F`
  impi : (a b : TermTree) → Asks at (implies a b)
      → Row at step.Impi (assuming (asking at.sequent b) a ∷ [])
  noti : (a : TermTree) → Asks at (negation a)
      → Row at step.Noti (assuming (asking at.sequent falsity) a ∷ [])
  alli : (x : Sort) (F : TermTree) → Asks at (all x F)
      → Row at step.Alli
      (with_variable x (asking at.sequent (opened (new_variable x at.sequent) F)) ∷ [])
  andi : (a b : TermTree) → Asks at (both a b)
      → Row at step.Andi (asking at.sequent a ∷ asking at.sequent b ∷ [])
  orl : (a b : TermTree) → Asks at (either a b) → Row at step.Orl (asking at.sequent a ∷ [])
  orr : (a b : TermTree) → Asks at (either a b) → Row at step.Orr (asking at.sequent b ∷ [])
  exi : (arg : ValArg) (x : Sort) (F : TermTree) (w : ArgTree) → Asks at (some x F)
      → IsValue at x arg w → Row at (step.Exi arg) (asking at.sequent (opened w F) ∷ [])
  -- hypothesis h is `a && b`, `a || b`, `a => b`, `not(a)`, `forall x, F`, `exists x, F`
  ande : (h : ℕ) (a b : TermTree) → Assumes at h (both a b)
      → Row at (step.Ande h) (assuming (assuming at.sequent a) b ∷ [])
  ore : (h : ℕ) (a b : TermTree) → Assumes at h (either a b)
      → Row at (step.Ore h) (assuming at.sequent a ∷ assuming at.sequent b ∷ [])
  impe : (h : ℕ) (a b : TermTree) → Assumes at h (implies a b)
      → Row at (step.Impe h) (asking at.sequent a ∷ assuming at.sequent b ∷ [])
  note : (h : ℕ) (a : TermTree) → Assumes at h (negation a)
      → Row at (step.Note h) (asking at.sequent a ∷ [])
  alle : (h : ℕ) (arg : ValArg) (x : Sort) (F : TermTree) (w : ArgTree) → Assumes at h (all x F)
      → IsValue at x arg w → Row at (step.Alle h arg) (assuming at.sequent (opened w F) ∷ [])
  exe : (h : ℕ) (x : Sort) (F : TermTree) → Assumes at h (some x F)
      → Row at (step.Exe h)
      (with_variable x (assuming at.sequent (opened (new_variable x at.sequent) F)) ∷ [])
  -- of a formula, and without a hypothesis
  cut : (arg : TermArg) (F : TermTree) → IsTerm at Boolean arg F
      → Row at (step.Cut arg) (asking at.sequent F ∷ assuming at.sequent F ∷ [])
  em : (arg : TermArg) (F : TermTree) → IsTerm at Boolean arg F
      → Row at (step.Em arg) (assuming at.sequent F ∷ assuming at.sequent (negation F) ∷ [])
  drop : (h : ℕ) → h < length (hyps_of at.sequent)
      → Row at (step.Drop h) (with_hyps (without (hyps_of at.sequent) h) at.sequent ∷ [])
  -- what statement k says of messages, on the side of a Local sequent
  use_statement : (k : ℕ) (args : List TermArg) (s : Side) (F : TermTree) (ts : List TermTree)
      → IsLocal at s → Offers at k (length args) F → AreMessages at args ts
      → Row at (step.UseStmt k args) (assuming at.sequent (instance_on s ts F) ∷ [])
  -- a Local sequent of both sides on each of them, and what a sequent says of the trace
  proj : IsLocal at side.Both
      → Row at step.Proj (on_side side.Left at.sequent ∷ on_side side.Right at.sequent ∷ [])
  of_trace : (c : TermTree) → AsksOfTrace (body_of at.sequent) c
      → Row at step.Trace (trace (vars_of at.sequent) (pure_ones (hyps_of at.sequent)) c ∷ [])
  -- equations: `u = u`, and of messages in a Local sequent `u = v`, also of applications
  itself : AsksItself at → Row at step.Refl []
  sym : (u v : TermTree) → AsksLocally at (equal u v)
      → Row at step.Sym (asking at.sequent (equal v u) ∷ [])
  trans : (arg : TermArg) (u w v : TermTree) → AsksLocally at (equal u v)
      → IsTerm at Message arg w
      → Row at (step.Trans arg) (asking at.sequent (equal u w) ∷ asking at.sequent (equal w v) ∷ [])
  arg : (f : Kind) (is : List Idx) (us vs : TermTrees) → count_terms us ≡ count_terms vs
      → AsksLocally at (equal (fun f is us) (fun f is vs))
      → Row at step.Arg (arguments_asked at.sequent f 0 us vs)
  -- by an equation or an equivalence
  rew : (h : ℕ) (d : Dir) (p : Target) (f : TermTree) (r : Rewriting) (premise : SequentTree)
      → Assumes at h f → Equates at f r → Rewritten at h (turned d r) p premise
      → Row at (step.Rew h d p) (premise ∷ [])
  -- what is known of a term, in a Local sequent
  fact : (arg : TermArg) (s : Side) (x : Sort) (t F : TermTree) → IsLocal at s → IsTerm at x arg t
      → HasFact at.env.funs x t F → Row at (step.Fact arg) (assuming at.sequent F ∷ [])

-- the step replaces the sequent by these premises: those of its row, which are within the limits
pub record Replaces (at : Site) (step : Step) (premises : List SequentTree) : Type 0 where
  pub by_row : Row at step premises
  pub fit : all_fit premises ≡ true
