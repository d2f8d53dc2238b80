-- What the system of a goal keeps.
use Rattle.std.proofs.Common.{◌≡◌, refl, ℕ, zero, suc, ◌<◌, List, [], ◌∷◌, length, Some, None}
use Rattle.std.proofs.Common.{Bool, true, false, arith}
use Rattle.std.specs.Prelude.{get_or, slice_get, replicate}
use Rattle.std.specs.List.{list_all}
use Rattle.sq_base.specs.declared.sort.Sort.TheVariants.{Message, Boolean, Index}
use Rattle.sq_term.specs.Lists.{here, there, Each}
use Rattle.sq_term.specs.Systems.{ActionTree, SystemTree, no_action, action_at}
use Rattle.sq_term.proofs.BoolTests.{and_split}
use Rattle.sq_typing.specs.Typing.{has_sort, binds_indices}
use Rattle.sq_system.specs.Facts.{IsSystem}
use Rattle.sq_system.specs.Scopes.{signature_of}
use Rattle.sq_system.specs.Statements.{EnvTree, no_actions}
use Rattle.sq_system.specs.Usable.{statement_at, system_of}
use Rattle.sq_system.specs.WellFormed.{is_body, are_bodies, is_well_sorted, is_environment}
use Rattle.sq_system.specs.WellFormed.{IsEnvironment}
use Rattle.sq_system.proofs.EnvLaws.{environment_parts}

all_or : {A : Type 0} (p : A → Bool) (xs : List A) (k : ℕ) (d : A) → list_all p xs ≡ true
    → p d ≡ true → p (get_or xs k d) ≡ true
all_or p [] k d h e = e
all_or p (x ∷ xs) zero d h e = (and_split (p x) (list_all p xs) h).0
all_or p (x ∷ xs) (suc k) d h e = all_or p xs k d (and_split (p x) (list_all p xs) h).1 e

each_or : {A : Type 0} (P : A → Type 0) (xs : List A) (k : ℕ) (d : A) → Each P xs → P d
    → P (get_or xs k d)
each_or P [] k d h e = e
each_or P (x ∷ xs) zero d h e = h x here
each_or P (x ∷ xs) (suc k) d h e = each_or P xs k d (λ y i. h y (there i)) e

no_actions_keep : IsSystem no_actions
no_actions_keep k a e = absurd (let f : None ≡ Some a = e in cc)

pub goal_system : (e : EnvTree) (goal : ℕ) → IsEnvironment e → IsSystem (system_of e goal)
goal_system e goal kept =
    each_or IsSystem e.systems (statement_at e goal).system no_actions kept.systems no_actions_keep

pub goal_sorted : (e : EnvTree) (goal : ℕ) → is_environment e ≡ true
    → is_well_sorted e (system_of e goal) ≡ true
goal_sorted e goal kept =
    all_or (is_well_sorted e) e.systems (statement_at e goal).system no_actions
    (environment_parts e kept).1 refl

-- an action that is there
bodies_at : (e : EnvTree) (s : SystemTree) (xs : List ActionTree) (n : ℕ) → n < length xs
    → list_all (are_bodies e s) xs ≡ true → are_bodies e s (get_or xs n no_action) ≡ true
bodies_at e s [] n b h = absurd (omega arith)
bodies_at e s (x ∷ xs) zero b h = (and_split (are_bodies e s x) (list_all (are_bodies e s) xs) h).0
bodies_at e s (x ∷ xs) (suc n) b h =
    bodies_at e s xs n (omega arith)
    (and_split (are_bodies e s x) (list_all (are_bodies e s) xs) h).1

-- its condition and its output over its own indices
pub body_sorts : (e : EnvTree) (s : SystemTree) (n : ℕ) → is_well_sorted e s ≡ true
    → n < length s.actions
    → (has_sort (signature_of e s 0 (replicate (action_at s n).arity Index)) [] Boolean
    (action_at s n).cond ≡ true)
    × (has_sort (signature_of e s 0 (replicate (action_at s n).arity Index)) [] Message
    (action_at s n).output ≡ true)
body_sorts e s n h b =
    let a : ActionTree = action_at s n in
    let g = signature_of e s 0 (replicate a.arity Index) in
    let p = and_split (is_body g Boolean a.cond) (is_body g Message a.output)
    (bodies_at e s s.actions n b h) in (
      (and_split (has_sort g [] Boolean a.cond) (binds_indices a.cond) p.0).0,
      (and_split (has_sort g [] Message a.output) (binds_indices a.output) p.1).0,
    )
