-- Each fact of time is true in every trace.
use Rattle.std.proofs.Common.{◌≡◌, refl, ℕ, zero, suc, ◌+◌, ◌<◌, List, [], ◌∷◌, map, length, Option}
use Rattle.std.proofs.Common.{Some, None, Bool, arith}
use Rattle.sq_base.specs.declared.sort.Sort.TheVariants.{Timestamp}
use Rattle.sq_term.specs.declared.model.Model.{Model}
use Rattle.sq_term.specs.declared.model.Value.TheVariants.{Time as Moment}
use Rattle.sq_term.specs.Arguments.{a_time}
use Rattle.sq_term.specs.Ground.{Ground}
use Rattle.sq_term.specs.Lists.{Member, here, there, Each, count}
use Rattle.sq_term.specs.Macros.{GroundMacro}
use Rattle.sq_term.specs.Models.{times_of, IsTraceModel}
use Rattle.sq_term.specs.Records.{world}
use Rattle.sq_term.specs.Syntax.{TsTree, TermTree}
use Rattle.sq_term.specs.Systems.{SystemTree}
use Rattle.sq_term.specs.Translate.{Times, Assignment, time_of, ts_value, domain}
use Rattle.sq_term.proofs.Members.{each-map, each-push}
use Rattle.sq_system.specs.Facts.{IsSystem}
use Rattle.sq_system.specs.Sequents.{vars_of}
use Rattle.sq_ground.specs.Goals.{theory_of}
use Rattle.sq_ground.specs.Holding.{IsAssignment}
use Rattle.sq_ground.specs.Theories.{Theory, world_at}
use Rattle.sq_step.specs.declared.step.Step.{Step}
use Rattle.sq_step.specs.declared.step.TsArg.{TsArg}
use Rattle.sq_sequent.specs.Site.{Site}
use Rattle.sq_sequent.specs.Standing.{signature_at}
use Rattle.sq_rules_logic.proofs.Domains.{placed_times, value_member}
use Rattle.sq_rules_trace.specs.Laws.{IsTrueAlways, TimeFactsAreTrue}
use Rattle.sq_rules_trace.specs.Rows.{system_at, IsTime, TimeFact}
use Rattle.sq_rules_trace.proofs.ActionTrue.{o8_true, o9_true, o11_true, o12_true}
use Rattle.sq_rules_trace.proofs.OrderTrue.{o1_true, o2_true, o3_true, o4_true, o5_true, o6_true}
use Rattle.sq_rules_trace.proofs.OrderTrue.{o7_true, o10_true}
use Rattle.sq_rules_trace.proofs.Sorted.{time_sort, time_closed}

-- ---- the position of a timestamp argument

count_below : (n b k : ℕ) → Member (count b n) k → k < b + n
count_below zero b k i = elim i [ ]
count_below (suc n) b k here = omega arith
count_below (suc n) b k (there i) = let l : k < suc b + n = count_below n (suc b) k i in omega arith

positions_below : (w : Times)
    → Each (λ u. (p : ℕ) → time_of u ≡ Some p → p < w.positions) (domain w Timestamp)
positions_below w =
    each-push (map (λ p. Moment (Some p)) (count 0 w.positions)) (Moment None)
    (λ u. (p : ℕ) → time_of u ≡ Some p → p < w.positions)
    (each-map (λ p. Moment (Some p)) (count 0 w.positions)
    (λ u. (p : ℕ) → time_of u ≡ Some p → p < w.positions)
    (λ q i p e.
    let l : q < 0 + w.positions = count_below w.positions 0 q i in
    let f : q ≡ p = cc in
    omega (arith, f)))
    (λ p e. absurd (let f : None ≡ Some p = e in cc))

pub in_trace : (at : Site) (m : Model) (a : Assignment)
    → IsAssignment (theory_of at.env at.goal m) (vars_of at.sequent) a
    → (x : TsArg) (t : TsTree) → IsTime at x t → (p : ℕ) → ts_value (times_of m) a [] t ≡ Some p
    → p < suc (length m.list)
in_trace at m a f x t e =
    positions_below (times_of m) (Moment (ts_value (times_of m) a [] t))
    (value_member (times_of m) (placed_times m) (signature_at at) a f.values Timestamp (a_time t)
    (time_sort at x t e))

-- ---- by cases of the facts

module _ (at : Site) (m : Model) (facts : IsSystem (system_at at))
    (M : IsTraceModel (system_at at) m) where
  abbrev th : Theory
  th = theory_of at.env at.goal m

  abbrev s : SystemTree
  s = system_at at

  true_of : (step : Step) (F : TermTree) → TimeFact at step F → IsTrueAlways th at.sequent F
  true_of _ _ (TimeFact.o1 x t e) left a f v = o1_true (world_at th left) a v t
  true_of _ _ (TimeFact.o2 x y z t u r e g h) left a f v = o2_true (world_at th left) a v t u r
  true_of _ _ (TimeFact.o3 x y t u e g) left a f v = o3_true (world_at th left) a v t u
  true_of _ _ (TimeFact.o4 x y t u e g) left a f v = o4_true (world_at th left) a v t u
  true_of _ _ (TimeFact.o5 x y t u e g) left a f v = o5_true (world_at th left) a v t u
  true_of _ _ (TimeFact.o6 x t e) left a f v = o6_true (world_at th left) a v t
  true_of _ _ (TimeFact.o7 x t e) left a f v = o7_true (world_at th left) a v t
  true_of _ _ (TimeFact.o8 x y n k is js e g) left a f v =
      o8_true s m M (world s m left).values left a v n k is js
  true_of _ _ (TimeFact.o9 x t e) left a f v =
      o9_true s m M (world s m left).values left a v t (time_closed at x t e)
      (in_trace at m a f x t e)
  true_of _ _ (TimeFact.o10 x y t u e g) left a f v = o10_true (world_at th left) a v t u
  true_of _ _ (TimeFact.o11 x n is e) left a f v =
      o11_true s m M (world s m left).values left a v n is
  true_of _ _ (TimeFact.o12 x y k n b is js c e g h) left a f v =
      o12_true s m M (world s m left).values left a v facts n b is js k c h

pub facts_true : TimeFactsAreTrue
facts_true at step F m facts M known = true_of at m facts M step F known
