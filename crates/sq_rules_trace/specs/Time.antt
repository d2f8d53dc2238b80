-- The rows of time as one function: the premises that a step leaves of a sequent.
use Rattle.std.specs.Prelude.{ℕ, List, [], ◌∷◌, Bool, if◌then◌else◌, ◌&&◌, Option, Some, None}
use Rattle.std.specs.Prelude.{Result, option_map}
use Rattle.std.specs.List.{list_all}
use Rattle.sq_base.specs.declared.sort.Sort.TheVariants.{Timestamp}
use Rattle.sq_term.specs.declared.term.Idx.{Idx}
use Rattle.sq_term.specs.declared.term.Macro.{Macro}
use Rattle.sq_term.specs.declared.term.Macro.TheVariants.{Input, Output, Cond, Exec, Frame}
use Rattle.sq_term.specs.declared.term.Side.{Side}
use Rattle.sq_term.specs.Formulas.{unary, negation, both, empty, conditional, pair, of_bool}
use Rattle.sq_term.specs.Symbols as kind
use Rattle.sq_term.specs.Syntax.{TsTree, free, bound, init, pred, action, TermTree, macro, happens}
use Rattle.sq_term.specs.Systems.{SystemTree, action_at, clash}
use Rattle.sq_typing.specs.Typing.{has_sort_at}
use Rattle.sq_system.specs.declared.fault.RuleFault.{RuleFault}
use Rattle.sq_system.specs.Sequents.{Body, trace_body, local_body, equiv_body, SequentTree, vars_of}
use Rattle.sq_system.specs.Sequents.{hyps_of, body_of}
use Rattle.sq_step.specs.declared.step.Step.{Step}
use Rattle.sq_step.specs.declared.step.Step.TheVariants as step
use Rattle.sq_step.specs.declared.step.TsArg.{TsArg}
use Rattle.sq_sequent.specs.Facts.{assumed_fact}
use Rattle.sq_sequent.specs.Logic.{judged}
use Rattle.sq_sequent.specs.Premises.{asking, assuming}
use Rattle.sq_sequent.specs.Site.{Site}
use Rattle.sq_sequent.specs.Standing.{time_in}
use Rattle.sq_sequent.specs.Views.{goal_of}
use Rattle.sq_rules_trace.specs.ActionFacts.{o8, o9, o11, o12}
use Rattle.sq_rules_trace.specs.Induction.{earlier, is_free_of}
use Rattle.sq_rules_trace.specs.OrderFacts.{o1, o2, o3, o4, o5, o6, o7, o10}
use Rattle.sq_rules_trace.specs.Rows.{system_at}
use Rattle.sq_rules_trace.specs.Unfolding.{has_value, initial, undefined, body_at, is_behind_init}

-- ---- facts

abbrev pub of_two : (TsTree → TsTree → TermTree) → Option TsTree → Option TsTree → Option TermTree
of_two f None s = None
of_two f (Some t) None = None
of_two f (Some t) (Some s) = Some (f t s)

abbrev pub of_three : (TsTree → TsTree → TsTree → TermTree) → Option TsTree → Option TsTree
    → Option TsTree → Option TermTree
of_three f None s r = None
of_three f (Some t) s r = of_two (f t) s r

-- of instances of actions
unfoldable pub of_instance : (ℕ → List Idx → TermTree) → Option TsTree → Option TermTree
of_instance f (Some (action a is)) = Some (f a is)
of_instance f _ = None

unfoldable pub of_instances : (ℕ → List Idx → ℕ → List Idx → Option TermTree) → Option TsTree
    → Option TsTree → Option TermTree
of_instances f (Some (action a is)) (Some (action b js)) = f a is b js
of_instances f _ _ = None

-- choice k on the common path of two actions
abbrev pub clash_fact : SystemTree → ℕ → ℕ → List Idx → ℕ → List Idx → Option TermTree
clash_fact s k a is b js =
    option_map (o12 a is b js) (clash (action_at s a).path (action_at s b).path k)

unfoldable pub time_fact : Site → Step → Option TermTree
time_fact at (step.O1 x) = option_map o1 (time_in at x)
time_fact at (step.O2 x y z) = of_three o2 (time_in at x) (time_in at y) (time_in at z)
time_fact at (step.O3 x y) = of_two o3 (time_in at x) (time_in at y)
time_fact at (step.O4 x y) = of_two o4 (time_in at x) (time_in at y)
time_fact at (step.O5 x y) = of_two o5 (time_in at x) (time_in at y)
time_fact at (step.O6 x) = option_map o6 (time_in at x)
time_fact at (step.O7 x) = option_map o7 (time_in at x)
time_fact at (step.O8 x y) =
    of_instances (λ a is b js. Some (o8 a is b js)) (time_in at x) (time_in at y)
time_fact at (step.O9 x) = option_map (o9 (system_at at)) (time_in at x)
time_fact at (step.O10 x y) = of_two o10 (time_in at x) (time_in at y)
time_fact at (step.O11 x) = of_instance (o11 (system_at at)) (time_in at x)
time_fact at (step.O12 x y k) =
    of_instances (clash_fact (system_at at) k) (time_in at x) (time_in at y)
time_fact at _ = None

-- ---- induction

abbrev pub tind_on : SequentTree → ℕ → Option TermTree → Option (List SequentTree)
tind_on s v None = None
tind_on s v (Some g) =
    if has_sort_at (vars_of s) v Timestamp && list_all (is_free_of v) (hyps_of s)
    then Some (assuming s (earlier v g) ∷ []) else None

-- ---- macros

-- under a condition the macro has this value
abbrev pub unfolded : SequentTree → Macro → TsTree → TermTree → TermTree
    → Option (List SequentTree)
unfolded s m t c u = Some (asking s c ∷ assuming s (has_value m t u) ∷ [])

-- behind init what stands before makes an input, an execution and a frame
abbrev pub made_of_before : Macro → TsTree → Option TermTree
made_of_before Input t = Some (unary kind.attacker (macro Frame (pred t)))
made_of_before Output t = None
made_of_before Cond t = None
made_of_before Exec t = Some (both (macro Exec (pred t)) (macro Cond t))
made_of_before Frame t =
    Some
    (pair (macro Frame (pred t))
    (pair (of_bool (macro Exec t)) (conditional (macro Exec t) (macro Output t) empty)))

abbrev pub behind_init : SequentTree → Macro → TsTree → Option TermTree
    → Option (List SequentTree)
behind_init s m t None = None
behind_init s m t (Some u) = unfolded s m t (is_behind_init t) u

abbrev pub at_action : Site → Side → Macro → ℕ → List Idx → Option (List SequentTree)
at_action at side Output n is =
    unfolded at.sequent Output (action n is) (happens (action n is))
    (body_at side is (action_at (system_at at) n).output)
at_action at side Cond n is =
    unfolded at.sequent Cond (action n is) (happens (action n is))
    (body_at side is (action_at (system_at at) n).cond)
at_action at side m n is =
    behind_init at.sequent m (action n is) (made_of_before m (action n is))

unfoldable pub x_at : Site → Side → Macro → Option TsTree → Option (List SequentTree)
x_at at side m None = None
x_at at side m (Some init) = Some (assuming at.sequent (initial m) ∷ [])
x_at at side m (Some (action n is)) = at_action at side m n is
x_at at side m (Some t) = behind_init at.sequent m t (made_of_before m t)

abbrev pub x_on : Site → Body → Macro → TsArg → Option (List SequentTree)
x_on at (trace_body g) m x = None
x_on at (local_body side g) m x = x_at at side m (time_in at x)
x_on at (equiv_body known items) m x = None

abbrev pub xu_at : SequentTree → Macro → Option TsTree → Option (List SequentTree)
xu_at s m None = None
xu_at s m (Some t) =
    Some (asking s (negation (happens t)) ∷ assuming s (undefined m t) ∷ [])

abbrev pub xu_on : Site → Body → Macro → TsArg → Option (List SequentTree)
xu_on at (trace_body g) m x = None
xu_on at (local_body side g) m x = xu_at at.sequent m (time_in at x)
xu_on at (equiv_body known items) m x = None

-- the premises of a step, where its row applies
unfoldable pub time_row : Site → Step → Option (List SequentTree)
time_row at (step.Tind v) = tind_on at.sequent v (goal_of at.sequent)
time_row at (step.X m x) = x_on at (body_of at.sequent) m x
time_row at (step.Xu m x) = xu_on at (body_of at.sequent) m x
time_row at s = assumed_fact at.sequent (time_fact at s)

-- the calculus on its rows of time: premises, or the first reason why there are none
unfoldable pub time_premises : Site → Step → Result (List SequentTree) RuleFault
time_premises at s = judged (time_row at s)
