-- A goal that is past the limits below a binder is past them at every earlier timestamp.
use Rattle.std.proofs.Common.{◌≡◌, ◌≢◌, refl, sym, ap, ◌∙◌, ℕ, ◌+◌, max, Bool, true, false, Ok, Err, arith}
use Rattle.std.proofs.Common.{Some, [], ◌∷◌}
use Rattle.std.specs.Prelude.{if◌then◌else◌}
use Rattle.sq_base.specs.declared.sort.Sort.TheVariants.{Timestamp}
use Rattle.sq_term.specs.declared.term.SizeFault.{SizeFault}
use Rattle.sq_term.specs.declared.term.SizeFault.TheVariants as size_fault
use Rattle.sq_term.specs.Formulas.{implies}
use Rattle.sq_term.specs.Measure.{size, depth}
use Rattle.sq_term.specs.Syntax.{free, bound, TermTree, all}
use Rattle.sq_subst.specs.Renaming.{closed_over}
use Rattle.sq_subst.specs.Room.{fits, within}
use Rattle.sq_system.specs.Faults.{fault_of}
use Rattle.sq_system.specs.declared.fault.RuleFault.{RuleFault}
use Rattle.sq_system.specs.declared.fault.RuleFault.TheVariants as fault
use Rattle.sq_system.specs.declared.fault.RuleFault.TheVariants.{TooLarge}
use Rattle.sq_system.specs.Limits.{most_nodes}
use Rattle.sq_system.specs.Sequents.{SequentTree}
use Rattle.sq_formula.specs.Refusals.{IsPastLimits}
use Rattle.sq_sequent.specs.Logic.{held, judged}
use Rattle.sq_sequent.specs.Premises.{assuming}
use Rattle.sq_sequent.proofs.Held.{larger, fact-refused}
use Rattle.sq_rules_trace.specs.ActionFacts.{is_before}
use Rattle.sq_rules_trace.specs.Induction.{earlier}

pub earlier-refused : (v : ℕ) (g : TermTree)
    → within most_nodes (closed_over v g) ≡ Err size_fault.TooLarge
    → held (earlier v g) ≡ Err TooLarge
earlier-refused v g h =
    ap (λ b. if b then Ok (earlier v g) else Err TooLarge)
    (larger (size (closed_over v g)) (depth (closed_over v g)) (size (earlier v g))
    (depth (earlier v g)) (unfit (fits most_nodes (closed_over v g)) h) (omega arith)
    (omega arith))
  where
    unfit : (b : Bool) → (if b then Ok (closed_over v g) else Err size_fault.TooLarge)
        ≡ Err size_fault.TooLarge → b ≡ false
    unfit true e = absurd (cc)
    unfit false e = refl

pub earlier-answered : (v : ℕ) (g c : TermTree) → within most_nodes (closed_over v g) ≡ Ok c
    → c ≡ closed_over v g
earlier-answered v g c h = go (fits most_nodes (closed_over v g)) h
  where
    go : (b : Bool) → (if b then Ok (closed_over v g) else Err size_fault.TooLarge) ≡ Ok c
        → c ≡ closed_over v g
    go true e = cc
    go false e = absurd (cc)

-- the refusal of the goal below its binder is that of the whole
pub earlier-past : (v : ℕ) (g : TermTree) (f : SizeFault) (e : RuleFault)
    → (f ≢ size_fault.NoMemory → within most_nodes (closed_over v g) ≡ Err f)
    → e ≡ fault_of f → IsPastLimits e (fits most_nodes (earlier v g))
earlier-past v g size_fault.TooLarge e h k = λ n. (
  k,
  unfit (fits most_nodes (earlier v g))
      (earlier-refused v g (h (λ z. cc))),
)
  where
    unfit : (b : Bool) → (if b then Ok (earlier v g) else Err TooLarge) ≡ Err TooLarge
        → b ≡ false
    unfit true q = absurd (cc)
    unfit false q = refl
earlier-past v g size_fault.NoMemory e h k = λ n. absurd (n k)

-- want of memory is no reason
pub earlier-unmade : (v : ℕ) (g : TermTree) → IsPastLimits fault.NoMemory (fits most_nodes (earlier v g))
earlier-unmade v g = λ n. absurd (n refl)

-- a hypothesis that is past the limits takes its sequent past them
pub hypothesis-past : (s : SequentTree) (F : TermTree) (e : RuleFault)
    → IsPastLimits e (fits most_nodes F) → e ≢ fault.NoMemory
    → judged (Some (assuming s F ∷ [])) ≡ Err e
hypothesis-past s F e h n = fact-refused s (Some F) e h n

pub ruleset past_rules = (hypothesis-past)

-- and where it fits, the whole is made of it
pub earlier-made : (v : ℕ) (g c x : TermTree) → within most_nodes (closed_over v g) ≡ Ok c
    → x ≡ all Timestamp (implies (is_before (bound 0) (free v)) c)
    → x ≡ earlier v g
earlier-made v g c x h e =
    e ∙ ap (λ t. all Timestamp (implies (is_before (bound 0) (free v)) t)) (earlier-answered v g c h)

pub ruleset earlier_rules = (earlier-past, earlier-unmade, earlier-made)
