-- A body that is past the limits on a side is past them at its indices.
use Rattle.std.proofs.Common.{◌≡◌, ◌≢◌, refl, sym, ap, ◌∙◌, List, [], ◌∷◌, Bool, true, false, ◌&&◌, ◌+◌}
use Rattle.std.proofs.Common.{max, Ok, Err, map, arith}
use Rattle.std.specs.Prelude.{if◌then◌else◌}
use Rattle.sq_term.specs.declared.term.Idx.{Idx}
use Rattle.sq_term.specs.declared.term.Macro.{Macro}
use Rattle.sq_term.specs.declared.term.Macro.TheVariants.{Input, Output, Cond, Exec, Frame}
use Rattle.sq_term.specs.declared.term.Side.{Side}
use Rattle.sq_term.specs.Arguments.{an_index}
use Rattle.sq_term.specs.Measure.{size, depth}
use Rattle.sq_term.specs.Syntax.{TsTree, TermTree}
use Rattle.sq_subst.specs.Projection.{projected}
use Rattle.sq_subst.specs.Room.{fits}
use Rattle.sq_subst.specs.Substitution.{substitution}
use Rattle.sq_system.specs.declared.fault.RuleFault.{RuleFault}
use Rattle.sq_system.specs.declared.fault.RuleFault.TheVariants as fault
use Rattle.sq_system.specs.declared.fault.RuleFault.TheVariants.{TooLarge}
use Rattle.sq_system.specs.Limits.{most_nodes}
use Rattle.sq_formula.specs.Refusals.{IsPastLimits}
use Rattle.sq_rules_logic.specs.SideLimits.{side_fits}
use Rattle.sq_formula.proofs.NoSmaller.{no-smaller, no-flatter}
use Rattle.sq_system.specs.Sequents.{SequentTree}
use Rattle.sq_system.specs.Sizes.{fits as sequent_fits}
use Rattle.sq_sequent.specs.Logic.{held, judged, within_limits}
use Rattle.sq_sequent.specs.Premises.{asking, assuming}
use Rattle.sq_sequent.proofs.Held.{larger, refused, assumed_alone_refused}
use Rattle.sq_rules_trace.specs.Time.{unfolded}
use Rattle.sq_rules_trace.specs.Unfolding.{body_at, has_value}

body_unfit : (side : Side) (is : List Idx) (body : TermTree) → side_fits side body ≡ false
    → fits most_nodes (body_at side is body) ≡ false
body_unfit side is body h =
    larger (size (projected side body)) (depth (projected side body))
    (size (body_at side is body)) (depth (body_at side is body)) h
    (no-smaller (substitution (map an_index is) [] []) (projected side body) 0)
    (no-flatter (substitution (map an_index is) [] []) (projected side body) 0)

-- the refusal of the side is that of the body
pub body-past : (side : Side) (is : List Idx) (body : TermTree) (e : RuleFault)
    → IsPastLimits e (side_fits side body) → e ≢ fault.NoMemory
    → held (body_at side is body) ≡ Err e
body-past side is body e h n =
    ap (λ b. if b then Ok (body_at side is body) else Err TooLarge) (body_unfit side is body (h n).1)
    ∙ ap Err (sym (h n).0)

-- ---- a value that no sequent may hold

value_unfit : (m : Macro) (t : TsTree) (u : TermTree) → fits most_nodes u ≡ false
    → fits most_nodes (has_value m t u) ≡ false
value_unfit Input t u h =
    larger (size u) (depth u) (size (has_value Input t u)) (depth (has_value Input t u)) h
    (omega arith) (omega arith)
value_unfit Output t u h =
    larger (size u) (depth u) (size (has_value Output t u)) (depth (has_value Output t u)) h
    (omega arith) (omega arith)
value_unfit Cond t u h =
    larger (size u) (depth u) (size (has_value Cond t u)) (depth (has_value Cond t u)) h
    (omega arith) (omega arith)
value_unfit Exec t u h =
    larger (size u) (depth u) (size (has_value Exec t u)) (depth (has_value Exec t u)) h
    (omega arith) (omega arith)
value_unfit Frame t u h =
    larger (size u) (depth u) (size (has_value Frame t u)) (depth (has_value Frame t u)) h
    (omega arith) (omega arith)

premise_unfit : (s : SequentTree) (F : TermTree) → fits most_nodes F ≡ false
    → sequent_fits (assuming s F) ≡ false
unfolding within_limits
premise_unfit s F h =
    go (sequent_fits (assuming s F))
    (assumed_alone_refused s F TooLarge (ap (λ b. if b then Ok F else Err TooLarge) h))
  where
    go : (b : Bool) → (if b && true then Ok (assuming s F ∷ []) else Err TooLarge) ≡ Err TooLarge
        → b ≡ false
    go true e = absurd (cc)
    go false e = refl

pub value-refused : (s : SequentTree) (m : Macro) (t : TsTree) (c u : TermTree) (e : RuleFault)
    → held u ≡ Err e → judged (unfolded s m t c u) ≡ Err e
unfolding within_limits
value-refused s m t c u e h =
    let k = refused u e h in
    ap (λ b. if b then Ok (asking s c ∷ assuming s (has_value m t u) ∷ []) else Err TooLarge)
    (second (sequent_fits (asking s c)) (sequent_fits (assuming s (has_value m t u)))
    (premise_unfit s (has_value m t u) (value_unfit m t u k.0)))
    ∙ ap Err (sym k.1)
  where
    second : (a b : Bool) → b ≡ false → (a && (b && true)) ≡ false
    second true b f = ap (λ x. x && true) f
    second false b f = refl

pub ruleset value_rules = (value-refused)
