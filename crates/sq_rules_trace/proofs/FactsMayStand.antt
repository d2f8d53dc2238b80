-- A fact of time may stand in the sequent of its step.
use Rattle.std.proofs.Common.{◌≡◌, refl, true}
use Rattle.sq_base.specs.declared.sort.Sort.TheVariants.{Boolean}
use Rattle.sq_term.specs.Syntax.{TermTree}
use Rattle.sq_term.specs.Systems.{SystemTree}
use Rattle.sq_typing.specs.Functions.{are_functions}
use Rattle.sq_typing.specs.Standing.{Subject}
use Rattle.sq_typing.specs.Typing.{Signature}
use Rattle.sq_system.specs.Scopes.{subject_of}
use Rattle.sq_system.specs.Sequents.{body_of}
use Rattle.sq_system.specs.WellFormed.{IsEnvironment}
use Rattle.sq_system.proofs.EnvLaws.{environment_parts}
use Rattle.sq_step.specs.declared.step.Step.{Step}
use Rattle.sq_sequent.specs.Site.{Site}
use Rattle.sq_sequent.specs.Standing.{signature_at, may_stand}
use Rattle.sq_rules_trace.specs.Laws.{TimeFactsMayStand}
use Rattle.sq_rules_trace.specs.Rows.{system_at, TimeFact}
use Rattle.sq_rules_trace.proofs.FactsStand.{Stands, o1_stands, o2_stands, o3_stands, o4_stands}
use Rattle.sq_rules_trace.proofs.FactsStand.{o5_stands, o6_stands, o7_stands, o8_stands, o9_stands}
use Rattle.sq_rules_trace.proofs.FactsStand.{o10_stands, o11_stands, o12_stands}
use Rattle.sq_rules_trace.proofs.Sorted.{time_sort}
use Rattle.sq_rules_trace.proofs.Systems.{goal_system}

module _ (at : Site) (kept : IsEnvironment at.env) where
  abbrev g : Signature
  g = signature_at at

  abbrev about : Subject
  about = subject_of (body_of at.sequent)

  pub functions : are_functions g.funs ≡ true
  functions = (environment_parts at.env kept.well_formed).0

  abbrev s : SystemTree
  s = system_at at

  pub fact_stands : (step : Step) (F : TermTree) → TimeFact at step F → Stands g functions about F
  fact_stands _ _ (TimeFact.o1 x t e) = o1_stands g functions about t (time_sort at x t e)
  fact_stands _ _ (TimeFact.o2 x y z t u r e h k) =
      o2_stands g functions about t u r (time_sort at x t e) (time_sort at y u h)
      (time_sort at z r k)
  fact_stands _ _ (TimeFact.o3 x y t u e h) =
      o3_stands g functions about t u (time_sort at x t e) (time_sort at y u h)
  fact_stands _ _ (TimeFact.o4 x y t u e h) =
      o4_stands g functions about t u (time_sort at x t e) (time_sort at y u h)
  fact_stands _ _ (TimeFact.o5 x y t u e h) =
      o5_stands g functions about t u (time_sort at x t e) (time_sort at y u h)
  fact_stands _ _ (TimeFact.o6 x t e) = o6_stands g functions about t (time_sort at x t e)
  fact_stands _ _ (TimeFact.o7 x t e) = o7_stands g functions about t (time_sort at x t e)
  fact_stands _ _ (TimeFact.o8 x y a b is js e h) =
      o8_stands g functions about a b is js (time_sort at x _ e) (time_sort at y _ h)
  fact_stands _ _ (TimeFact.o9 x t e) = o9_stands g functions about s refl t (time_sort at x t e)
  fact_stands _ _ (TimeFact.o10 x y t u e h) =
      o10_stands g functions about t u (time_sort at x t e) (time_sort at y u h)
  fact_stands _ _ (TimeFact.o11 x a is e) =
      o11_stands g functions about s refl (goal_system at.env at.goal kept) a is
      (time_sort at x _ e)
  fact_stands _ _ (TimeFact.o12 x y k a b is js c e h q) =
      o12_stands g functions about a b is js c (time_sort at x _ e) (time_sort at y _ h)

pub facts_may_stand : TimeFactsMayStand
unfolding may_stand
facts_may_stand at step F kept known = (fact_stands at kept step F known).so
