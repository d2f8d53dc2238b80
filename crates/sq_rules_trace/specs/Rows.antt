-- The rows of time: which premises a step leaves of a sequent.
use Rattle.std.specs.Prelude.{◌≡◌, ℕ, List, [], ◌∷◌, true, Some}
use Rattle.sq_base.specs.declared.sort.Sort.TheVariants.{Timestamp}
use Rattle.sq_term.specs.declared.term.Idx.{Idx}
use Rattle.sq_term.specs.declared.term.Macro.{Macro}
use Rattle.sq_term.specs.declared.term.Side.{Side}
use Rattle.sq_term.specs.Formulas.{negation}
use Rattle.sq_term.specs.Lists.{Each}
use Rattle.sq_term.specs.Syntax.{TsTree, init, action, TermTree, happens}
use Rattle.sq_term.specs.Systems.{SystemTree, Choice, action_at, clash}
use Rattle.sq_typing.specs.Typing.{has_sort_at}
use Rattle.sq_system.specs.Sequents.{SequentTree, vars_of, hyps_of}
use Rattle.sq_system.specs.Usable.{system_of}
use Rattle.sq_step.specs.declared.step.Step.{Step}
use Rattle.sq_step.specs.declared.step.Step.TheVariants as step
use Rattle.sq_step.specs.declared.step.TsArg.{TsArg}
use Rattle.sq_sequent.specs.Premises.{asking, assuming}
use Rattle.sq_sequent.specs.Rows.{Asks, IsLocal}
use Rattle.sq_sequent.specs.Site.{Site}
use Rattle.sq_sequent.specs.Standing.{time_in}
use Rattle.sq_rules_trace.specs.ActionFacts as actions
use Rattle.sq_rules_trace.specs.Induction.{earlier, is_free_of}
use Rattle.sq_rules_trace.specs.OrderFacts as order
use Rattle.sq_rules_trace.specs.Unfolding.{has_value, initial, undefined, Unfolds}

-- the system whose traces the goal speaks of
abbrev pub system_at : Site → SystemTree
system_at at = system_of at.env at.goal

-- what an argument gives: a timestamp that may stand in the sequent
abbrev pub IsTime : Site → TsArg → TsTree → Type 0
IsTime at arg t = time_in at arg ≡ Some t

-- the fact that a step makes a hypothesis
pub data TimeFact (at : Site) : Step → TermTree → Type 0 where
  o1 : (x : TsArg) (t : TsTree) → IsTime at x t → TimeFact at (step.O1 x) (order.o1 t)
  o2 : (x y z : TsArg) (t s r : TsTree) → IsTime at x t → IsTime at y s → IsTime at z r
      → TimeFact at (step.O2 x y z) (order.o2 t s r)
  o3 : (x y : TsArg) (t s : TsTree) → IsTime at x t → IsTime at y s
      → TimeFact at (step.O3 x y) (order.o3 t s)
  o4 : (x y : TsArg) (t s : TsTree) → IsTime at x t → IsTime at y s
      → TimeFact at (step.O4 x y) (order.o4 t s)
  o5 : (x y : TsArg) (t s : TsTree) → IsTime at x t → IsTime at y s
      → TimeFact at (step.O5 x y) (order.o5 t s)
  o6 : (x : TsArg) (t : TsTree) → IsTime at x t → TimeFact at (step.O6 x) (order.o6 t)
  o7 : (x : TsArg) (t : TsTree) → IsTime at x t → TimeFact at (step.O7 x) (order.o7 t)
  o8 : (x y : TsArg) (a b : ℕ) (is js : List Idx) → IsTime at x (action a is)
      → IsTime at y (action b js) → TimeFact at (step.O8 x y) (actions.o8 a is b js)
  o9 : (x : TsArg) (t : TsTree) → IsTime at x t
      → TimeFact at (step.O9 x) (actions.o9 (system_at at) t)
  o10 : (x y : TsArg) (t s : TsTree) → IsTime at x t → IsTime at y s
      → TimeFact at (step.O10 x y) (order.o10 t s)
  o11 : (x : TsArg) (a : ℕ) (is : List Idx) → IsTime at x (action a is)
      → TimeFact at (step.O11 x) (actions.o11 (system_at at) a is)
  -- choice k on the common path of two actions
  o12 : (x y : TsArg) (k a b : ℕ) (is js : List Idx) (c : Choice) → IsTime at x (action a is)
      → IsTime at y (action b js)
      → clash (action_at (system_at at) a).path (action_at (system_at at) b).path k ≡ Some c
      → TimeFact at (step.O12 x y k) (actions.o12 a is b js c)

-- A step leaves these premises of the sequent where it is taken.
pub data TimeRow (at : Site) : Step → List SequentTree → Type 0 where
  fact : (s : Step) (F : TermTree) → TimeFact at s F → TimeRow at s (assuming at.sequent F ∷ [])
  -- the goal at an earlier timestamp, where no hypothesis holds the variable
  tind : (v : ℕ) (g : TermTree) → Asks at g → has_sort_at (vars_of at.sequent) v Timestamp ≡ true
      → Each (λ h. is_free_of v h ≡ true) (hyps_of at.sequent)
      → TimeRow at (step.Tind v) (assuming at.sequent (earlier v g) ∷ [])
  -- what a macro is, in a Local sequent: at init, under a condition, and where nothing happens
  x_init : (m : Macro) (x : TsArg) (side : Side) → IsLocal at side → IsTime at x init
      → TimeRow at (step.X m x) (assuming at.sequent (initial m) ∷ [])
  x : (m : Macro) (x : TsArg) (side : Side) (t : TsTree) (c u : TermTree) → IsLocal at side
      → IsTime at x t → Unfolds (system_at at) side m t c u
      → TimeRow at (step.X m x)
      (asking at.sequent c ∷ assuming at.sequent (has_value m t u) ∷ [])
  xu : (m : Macro) (x : TsArg) (side : Side) (t : TsTree) → IsLocal at side → IsTime at x t
      → TimeRow at (step.Xu m x)
      (asking at.sequent (negation (happens t)) ∷ assuming at.sequent (undefined m t) ∷ [])
