-- A term that no sequent may hold makes its premise too large.
use Rattle.std.proofs.Common.{◌≡◌, ◌≢◌, ◌≤◌, ℕ, ◌+◌, max, refl, sym, ap, ◌∙◌, List, [], ◌∷◌, ◌++◌}
use Rattle.std.proofs.Common.{Option, Some, None, Bool, true, false, ◌&&◌, nat_le, Ok, Err}
use Rattle.std.proofs.Common.{arith}
use Rattle.std.specs.Prelude.{if◌then◌else◌}
use Rattle.std.proofs.lemmas.Bool.Decides.{nat_tests}
use Rattle.sq_base.specs.declared.sort.Sort.{Sort}
use Rattle.sq_term.specs.Syntax.{TermTree}
use Rattle.sq_term.specs.Measure.{size, depth}
use Rattle.sq_subst.specs.Room as room
use Rattle.sq_system.specs.Limits.{most_nodes, most_depth}
use Rattle.sq_system.specs.Sequents.{SequentTree, sequent, trace, local, equiv}
use Rattle.sq_system.specs.Sizes.{all_size, all_depth, body_size, body_depth, fits}
use Rattle.sq_system.specs.declared.fault.RuleFault.{RuleFault}
use Rattle.sq_system.specs.declared.fault.RuleFault.TheVariants.{TooLarge, NoMemory}
use Rattle.sq_formula.specs.FactSearch.{IsFactFault}
use Rattle.sq_sequent.specs.Facts.{assumed_fact}
use Rattle.sq_sequent.specs.Premises.{asking, assuming, with_variable}
use Rattle.sq_sequent.specs.Logic.{held, within_limits, judged}

pub larger : (a b c d : ℕ) → (nat_le a most_nodes && nat_le b most_depth) ≡ false → a ≤ c → b ≤ d
    → (nat_le c most_nodes && nat_le d most_depth) ≡ false
larger a b c d h i j = go (nat_le c most_nodes) (nat_le d most_depth) refl refl
  where
    go : (p q : Bool) → nat_le c most_nodes ≡ p → nat_le d most_depth ≡ q → (p && q) ≡ false
    go false q e f = refl
    go true false e f = refl
    go true true e f =
        let k : c ≤ most_nodes = grind (arith, nat_tests) in
        let l : d ≤ most_depth = grind (arith, nat_tests) in
        small (nat_le a most_nodes) (nat_le b most_depth) refl refl h (omega arith) (omega arith)
      where
        small : (p q : Bool) → nat_le a most_nodes ≡ p → nat_le b most_depth ≡ q → (p && q) ≡ false
            → a ≤ most_nodes → b ≤ most_depth → true ≡ false
        small true true r s t u v = t
        small false q r s t u v = absurd (grind (arith, nat_tests))
        small true false r s t u v = absurd (grind (arith, nat_tests))

last_size : (ts : List TermTree) (t : TermTree) → size t ≤ all_size (ts ++ t ∷ [])
last_size [] t = omega arith
last_size (u ∷ us) t = let l : size t ≤ all_size (us ++ t ∷ []) = last_size us t in omega arith

last_depth : (ts : List TermTree) (t : TermTree) → depth t ≤ all_depth (ts ++ t ∷ [])
last_depth [] t = omega arith
last_depth (u ∷ us) t = let l : depth t ≤ all_depth (us ++ t ∷ []) = last_depth us t in omega arith

goal_unfit : (s : SequentTree) (t : TermTree) → room.fits most_nodes t ≡ false
    → fits (asking s t) ≡ false
unfolding asking
goal_unfit (trace vars H c) t h =
    larger (size t) (depth t) (all_size H + size t) (max (all_depth H) (depth t)) h (omega arith)
    (omega arith)
goal_unfit (local side vars H c) t h =
    larger (size t) (depth t) (all_size H + size t) (max (all_depth H) (depth t)) h (omega arith)
    (omega arith)
goal_unfit (equiv vars H known items) t h =
    larger (size t) (depth t) (all_size H + size t) (max (all_depth H) (depth t)) h (omega arith)
    (omega arith)

hyp_unfit : (s : SequentTree) (t : TermTree) → room.fits most_nodes t ≡ false
    → fits (assuming s t) ≡ false
unfolding assuming
hyp_unfit (sequent vars H body) t h =
    larger (size t) (depth t) (all_size (H ++ t ∷ []) + body_size body)
    (max (all_depth (H ++ t ∷ [])) (body_depth body)) h (omega (arith, last_size H t))
    (omega (arith, last_depth H t))

-- a variable is no node
same_fit : (x : Sort) (s : SequentTree) → fits (with_variable x s) ≡ fits s
unfolding with_variable
same_fit x (sequent vars hyps body) = refl

pub refused : (t : TermTree) (e : RuleFault) → held t ≡ Err e
    → (room.fits most_nodes t ≡ false) × (e ≡ TooLarge)
refused t e h = go (room.fits most_nodes t) refl h
  where
    go : (b : Bool) → room.fits most_nodes t ≡ b → (if b then Ok t else Err TooLarge) ≡ Err e
        → (room.fits most_nodes t ≡ false) × (e ≡ TooLarge)
    go true i j = absurd (cc)
    go false i j = (i, cc)

pub unfit_premise : (p : SequentTree) → fits p ≡ false → judged (Some (p ∷ [])) ≡ Err TooLarge
unfolding within_limits
unfit_premise p h = ap (λ b. if b && true then Ok (p ∷ []) else Err TooLarge) h

pub asked_refused : (x : Sort) (s : SequentTree) (t : TermTree) (e : RuleFault) → held t ≡ Err e
    → judged (Some (with_variable x (asking s t) ∷ [])) ≡ Err e
asked_refused x s t e h =
    let p = refused t e h in
    unfit_premise (with_variable x (asking s t)) (same_fit x (asking s t) ∙ goal_unfit s t p.0)
    ∙ ap Err (sym p.1)

pub assumed_refused : (x : Sort) (s : SequentTree) (t : TermTree) (e : RuleFault) → held t ≡ Err e
    → judged (Some (with_variable x (assuming s t) ∷ [])) ≡ Err e
assumed_refused x s t e h =
    let p = refused t e h in
    unfit_premise (with_variable x (assuming s t)) (same_fit x (assuming s t) ∙ hyp_unfit s t p.0)
    ∙ ap Err (sym p.1)

pub asked_alone_refused : (s : SequentTree) (t : TermTree) (e : RuleFault) → held t ≡ Err e
    → judged (Some (asking s t ∷ [])) ≡ Err e
asked_alone_refused s t e h =
    let p = refused t e h in unfit_premise (asking s t) (goal_unfit s t p.0) ∙ ap Err (sym p.1)

pub assumed_alone_refused : (s : SequentTree) (t : TermTree) (e : RuleFault) → held t ≡ Err e
    → judged (Some (assuming s t ∷ [])) ≡ Err e
assumed_alone_refused s t e h =
    let p = refused t e h in unfit_premise (assuming s t) (hyp_unfit s t p.0) ∙ ap Err (sym p.1)

pub ruleset held_rules =
    (asked_refused, assumed_refused, asked_alone_refused, assumed_alone_refused)

-- why there is no fact
pub fact-refused : (s : SequentTree) (o : Option TermTree) (e : RuleFault) → IsFactFault e o
    → e ≢ NoMemory → judged (assumed_fact s o) ≡ Err e
fact-refused s None e f n = absurd (n f)
fact-refused s (Some F) e f n =
    let p : (e ≡ TooLarge) × (room.fits most_nodes F ≡ false) = f n in
    assumed_alone_refused s F e (ap (λ b. if b then Ok F else Err TooLarge) p.1 ∙ ap Err
    (sym p.0))
