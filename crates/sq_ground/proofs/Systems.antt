-- What the calls of a system answer, on its actions' trees.
use Rattle.std.proofs.Common.{◌≡◌, refl, sym, ap, ◌∙◌, ℕ, zero, suc, ◌<◌, List, [], ◌∷◌, length}
use Rattle.std.proofs.Common.{arith, true}
use Rattle.std.specs.Prelude.{Some, None, slice_get, ◌==◌, nat_lt}
use Rattle.std.proofs.lemmas.Bool.{eqb-true, eq-eqb}
use Rattle.sq_term.specs.declared.action.Action.{Action}
use Rattle.sq_term.specs.declared.model.Inst.{Inst}
use Rattle.sq_term.specs.Systems.{action_tree, system_tree, action_at, no_action}
use Rattle.sq_term.specs.Models.{is_instance_below, are_below}
use Rattle.sq_term.proofs.BoolTests.{and_split}
use Rattle.sq_system.specs.Facts.{path_of, arity_of}
use Rattle.sq_system.proofs.SystemLaws.{length-actions}

-- an action by its number
pub action_at-some : (xs : List Action) (n : ℕ) (a : Action) → slice_get xs n ≡ Some a
    → action_at (system_tree xs) n ≡ action_tree a
action_at-some [] n a e = cc
action_at-some (x ∷ xs) zero a e = let f : x ≡ a = cc in ap action_tree f
action_at-some (x ∷ xs) (suc n) a e = action_at-some xs n a e

pub action_at-none : (xs : List Action) (n : ℕ) → slice_get xs n ≡ None
    → action_at (system_tree xs) n ≡ no_action
action_at-none [] n e = refl
action_at-none (x ∷ xs) zero e = let f : Some x ≡ None = e in cc
action_at-none (x ∷ xs) (suc n) e = action_at-none xs n e

pub path_of-action_at : (xs : List Action) (n : ℕ)
    → path_of xs n ≡ (action_at (system_tree xs) n).path
path_of-action_at [] n = refl
path_of-action_at (x ∷ xs) zero = refl
path_of-action_at (x ∷ xs) (suc n) = path_of-action_at xs n

pub arity_of-action_at : (xs : List Action) (n : ℕ)
    → arity_of xs n ≡ (action_at (system_tree xs) n).arity
arity_of-action_at [] n = refl
arity_of-action_at (x ∷ xs) zero = refl
arity_of-action_at (x ∷ xs) (suc n) = arity_of-action_at xs n

pub slice_get-within : {A : Type 0} (xs : List A) (n : ℕ) (x : A) → slice_get xs n ≡ Some x
    → n < length xs
slice_get-within [] n x e = absurd (let f : None ≡ Some x = e in cc)
slice_get-within (y ∷ xs) zero x e = omega arith
slice_get-within (y ∷ xs) (suc n) x e = let b : n < length xs =
    slice_get-within xs n x e in omega arith

pub slice_get-past : {A : Type 0} (xs : List A) (n : ℕ) → slice_get xs n ≡ None → n < length xs → ⊥
slice_get-past [] n e b = omega arith
slice_get-past (y ∷ xs) zero e b = let f : Some y ≡ None = e in cc
slice_get-past (y ∷ xs) (suc n) e b = slice_get-past xs n e (omega arith)

-- an instance of one of the actions, with as many indices
pub instance-parts : (xs : List Action) (d : ℕ) (i : Inst) → is_instance_below (system_tree xs) d i
    ≡ true → (i.act < length xs) × (length i.idx ≡ arity_of xs i.act)
instance-parts xs d i h =
    let s : (nat_lt i.act (length (system_tree xs).actions) ≡ true) × _ =
    and_split (nat_lt i.act (length (system_tree xs).actions)) _ h in
    let r : ((length i.idx == (action_at (system_tree xs) i.act).arity) ≡ true)
    × (are_below d i.idx ≡ true) = and_split _ _ s.1 in
    let b : i.act < length (system_tree xs).actions =
    grind (arith, Rattle.std.proofs.lemmas.Bool.Decides.nat_tests) in (
      (let e : length (system_tree xs).actions ≡ length xs = length-actions xs in
          omega arith),
      eqb-true _ _ r.0 ∙ sym (arity_of-action_at xs i.act),
    )
