-- What closing steps mean: the verdict is Closed exactly there, and the goal holds.
use Rattle.std.proofs.Common.{◌≡◌, ◌↔◌, ◌<◌, ℕ, zero, suc, refl, ap, ◌∙◌, List, [], ◌∷◌, ◌++◌}
use Rattle.std.proofs.Common.{length, get_or, Option, Some, None, Result, Ok, Err, Bool, true}
use Rattle.std.proofs.Common.{arith}
use Rattle.std.specs.Prelude.{slice_get, option_map}
use Rattle.std.specs.List.{list_all}
use Rattle.sq_term.specs.declared.model.Model.{Model}
use Rattle.sq_term.specs.Lists.{Each, here, there}
use Rattle.sq_term.specs.Models.{IsTraceModel}
use Rattle.sq_term.proofs.Members.{member-append_left, member-append_right, each-append, each_cons}
use Rattle.sq_term.proofs.Members.{each_none, each_single}
use Rattle.sq_term.proofs.BoolTests.{and_split}
use Rattle.sq_system.specs.Sequents.{SequentTree}
use Rattle.sq_system.specs.Statements.{StmtTree, EnvTree}
use Rattle.sq_system.specs.Usable.{no_statement, statement_at, system_of}
use Rattle.sq_system.specs.WellFormed.{is_sequent_of, is_well_formed_for, is_well_formed}
use Rattle.sq_system.specs.WellFormed.{is_statement, IsEnvironment}
use Rattle.sq_system.proofs.EnvLaws.{environment_parts}
use Rattle.sq_ground.specs.Goals.{theory_of, HoldsEverywhere}
use Rattle.sq_ground.specs.Holding.{HoldsAt}
use Rattle.sq_system.specs.declared.fault.RuleFault.{RuleFault}
use Rattle.sq_step.specs.declared.step.Step.{Step}
use Rattle.sq_sequent.proofs.Preserved.{preserved}
use Rattle.sq_sequent.specs.Rows.{Replaces}
use Rattle.sq_rules_logic.specs.Soundness.{EarlierHoldAt, EarlierHold}
use Rattle.sq_rules_logic.proofs.Answering.{replaces, replaced}
use Rattle.sq_rules_logic.proofs.RowSound.{row_sound}
use Rattle.sq_kernel.specs.declared.fault.Kind.{Kind}
use Rattle.sq_kernel.specs.declared.fault.StepFault.TheVariants.{Rule}
use Rattle.sq_kernel.specs.declared.fault.Verdict.TheVariants.{Closed, Rejected}
use Rattle.sq_kernel.specs.Closing.{site}
use Rattle.sq_kernel.specs.Verdicts.{calculus, in_front, kind_of, after, verdict_from}
use Rattle.sq_kernel.specs.Closing.{Closes, ClosesGoal}
use Rattle.sq_kernel.specs.Verdicts.{verdict_of}

-- ---- the verdict is Closed exactly where the steps close the goal

-- no reason of a refusal closes
not_closed : {P : Type 0} (n : ℕ) (o : Option Kind) → option_map (Rejected n) o ≡ Some Closed → P
not_closed n None e = absurd (cc)
not_closed n (Some k) e = absurd (cc)

module _ (env : EnvTree) (g : ℕ) where
  pub closed_closes : (done : ℕ) (steps : List Step) (stack : List SequentTree)
      → verdict_from env g done steps stack ≡ Some Closed → Closes env g steps stack
  closed_closes done [] [] e = refl
  closed_closes done [] (s ∷ rest) e = absurd (cc)
  closed_closes done (x ∷ steps) [] e = absurd (cc)
  closed_closes done (x ∷ steps) (s ∷ rest) e =
      go (calculus (site env g s) x) refl e (λ ps k. closed_closes (suc done) steps (ps ++ rest) k)
    where
      go : (r : Result (List SequentTree) RuleFault) → calculus (site env g s) x ≡ r
          → after done (in_front r rest) (verdict_from env g (suc done) steps) ≡ Some Closed
          → ((ps : List SequentTree) → verdict_from env g (suc done) steps (ps ++ rest)
          ≡ Some Closed
          → Closes env g steps (ps ++ rest))
          → (premises : List SequentTree) × Replaces (site env g s) x premises
          × Closes env g steps (premises ++ rest)
      go (Ok ps) f k further = (ps, replaces (site env g s) x ps f, further ps k)
      go (Err fault) f k further = not_closed (suc done) (kind_of (Rule fault)) k

  pub closes_closed : (done : ℕ) (steps : List Step) (stack : List SequentTree)
      → Closes env g steps stack → verdict_from env g done steps stack ≡ Some Closed
  closes_closed done [] [] c = refl
  closes_closed done [] (s ∷ rest) c = absurd (cc)
  closes_closed done (x ∷ steps) [] c = absurd c
  closes_closed done (x ∷ steps) (s ∷ rest) c =
      ap (λ r. after done (in_front r rest) (verdict_from env g (suc done) steps))
      (replaced (site env g s) x c.0 c.1)
      ∙ closes_closed (suc done) steps (c.0 ++ rest) c.2

  pub closed_exactly : (steps : List Step)
      → (verdict_of env g steps ≡ Some Closed) ↔ ClosesGoal env g steps
  closed_exactly steps =
      let start : List SequentTree = (statement_at env g).start ∷ [] in
      (closed_closes 0 steps start, closes_closed 0 steps start)

-- ---- the sequents of a stack are well-formed

place : {A : Type 0} (p : A → Bool) (xs : List A) (k : ℕ) (d : A) → list_all p xs ≡ true
    → k < length xs → (slice_get xs k ≡ Some (get_or xs k d)) × (p (get_or xs k d) ≡ true)
place p [] k d h l = absurd (omega arith)
place p (x ∷ xs) zero d h l = (refl, (and_split (p x) (list_all p xs) h).0)
place p (x ∷ xs) (suc k) d h l = place p xs k d (and_split (p x) (list_all p xs) h).1 (omega arith)

module _ (env : EnvTree) (kept : IsEnvironment env) (g : ℕ) where
  abbrev WellFormed : SequentTree → Type 0
  WellFormed s = is_well_formed env g s ≡ true

  -- the starting sequent of a statement
  start_well_formed : g < length env.stmts → WellFormed (statement_at env g).start
  start_well_formed l =
      let p = place (is_statement env) env.stmts g no_statement
      (environment_parts env kept.well_formed).2 l in
      let st : StmtTree = statement_at env g in
      ap (λ o. is_well_formed_for env o st.start) p.0
      ∙ (and_split (is_sequent_of env (slice_get env.systems st.system)
      (length st.schemas) st.start) _
      p.1).0

  -- the premises and the further sequents
  replaced_well_formed : (x : Step) (s : SequentTree) (rest ps : List SequentTree)
      → Replaces (site env g s) x ps → Each WellFormed (s ∷ rest) → Each WellFormed (ps ++ rest)
  replaced_well_formed x s rest ps r w =
      each-append ps rest WellFormed
      (preserved (site env g s) x kept.well_formed ps (w s here) r.by_row r.fit)
      (λ y i. w y (there i))

  -- each sequent of a well-formed stack that steps close holds
  stack_holds : (m : Model) → IsTraceModel (system_of env g) m → EarlierHoldAt env g m
      → (steps : List Step) (stack : List SequentTree) → Each WellFormed stack
      → Closes env g steps stack → Each (HoldsAt (theory_of env g m)) stack
  stack_holds m trace earlier [] [] w c = each_none (HoldsAt (theory_of env g m))
  stack_holds m trace earlier [] (s ∷ rest) w c = absurd (cc)
  stack_holds m trace earlier (x ∷ steps) [] w c = absurd c
  stack_holds m trace earlier (x ∷ steps) (s ∷ rest) w c =
      let r : Replaces (site env g s) x c.0 = c.1 in
      let all : Each (HoldsAt (theory_of env g m)) (c.0 ++ rest) =
      stack_holds m trace earlier steps (c.0 ++ rest) (replaced_well_formed x s rest c.0 r w) c.2 in
      each_cons s rest (HoldsAt (theory_of env g m))
      (row_sound (site env g s) x c.0 kept r.by_row (w s here) m trace earlier
      (λ y i. all y (member-append_left c.0 rest y i)))
      (λ y i. all y (member-append_right c.0 rest y i))

  -- a goal that steps close holds at a model where the earlier ones do
  pub closed_holds : g < length env.stmts → (m : Model) → IsTraceModel (system_of env g) m
      → EarlierHoldAt env g m → (steps : List Step) → ClosesGoal env g steps
      → HoldsAt (theory_of env g m) (statement_at env g).start
  closed_holds l m trace earlier steps c =
      let start : SequentTree = (statement_at env g).start in
      stack_holds m trace earlier steps (start ∷ [])
      (each_single start WellFormed (start_well_formed l)) c start here

  pub goal_holds : g < length env.stmts → (steps : List Step)
      → verdict_of env g steps ≡ Some Closed → EarlierHold env g → HoldsEverywhere env g
  goal_holds l steps e earlier m trace =
      closed_holds l m trace (earlier m trace) steps
      (closed_closes env g 0 steps ((statement_at env g).start ∷ []) e)
