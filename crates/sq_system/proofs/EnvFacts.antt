-- What the systems of an environment keep, once each was looked at.
use Rattle.std.proofs.Common.{◌≡◌, refl, sym, ap, ◌∙◌, subst, ⊎_elim, ◌⊎◌, ℕ, suc, ◌+◌, ◌<◌, ◌≤◌}
use Rattle.std.proofs.Common.{List, [], ◌∷◌, map, length, get_or, slice_get, Some, arith}
use Rattle.std.proofs.lemmas.Option.{slice_get-get_or}
use Rattle.sq_term.specs.declared.action.Action.{Action}
use Rattle.sq_term.specs.Lists.{Member, here, there}
use Rattle.sq_term.specs.Systems.{SystemTree, system_tree}
use Rattle.sq_system.specs.declared.env.Env.{Env}
use Rattle.sq_system.specs.Environments.{env_tree}
use Rattle.sq_system.specs.Facts.{IsSystem, AreShallow, KeepsFacts}
use Rattle.sq_system.specs.WellFormed.{IsEnvironment}

-- the first n keep their facts
abbrev pub Seen : List (List Action) → ℕ → Type 0
Seen xs n = (k : ℕ) (s : List Action) → k < n → slice_get xs k ≡ Some s → KeepsFacts s

split : (k n : ℕ) → k < n + 1 → (k < n) ⊎ (k ≡ n)
split k n h = grind arith

pub seen_none : (xs : List (List Action)) → Seen xs 0
seen_none xs k s b e = absurd (omega arith)

-- one more
pub seen_next : (xs : List (List Action)) (n : ℕ) (s : List Action) → n < length xs
    → s ≡ get_or xs n s → KeepsFacts s → Seen xs n → Seen xs (n + 1)
seen_next xs n s b at facts seen k t c e =
    ⊎_elim (λ below. seen k t below e)
    (λ here'. subst KeepsFacts
    (let f : slice_get xs n ≡ Some s = slice_get-get_or xs n s b ∙ ap Some (sym at) in
    let g : slice_get xs n ≡ Some t = subst (λ j. slice_get xs j ≡ Some t) here' e in
    let h : Some s ≡ Some t = sym f ∙ g in cc) facts)
    (split k n c)

-- a system in the list, by its place
placed : (xs : List (List Action)) (t : SystemTree) → Member (map system_tree xs) t
    → (k : ℕ) × (s : List Action) × (k < length xs) × (slice_get xs k ≡ Some s)
    × (t ≡ system_tree s)
placed [] t i = elim i [ ]
placed (x ∷ xs) t here = (0, x, omega arith, refl, refl)
placed (x ∷ xs) t (there i) =
    let r : (k : ℕ) × (s : List Action) × (k < length xs) × (slice_get xs k ≡ Some s)
    × (t ≡ system_tree s) = placed xs t i in
    let b : r.0 < length xs = r.2 in
    (suc r.0, r.1, omega arith, r.3, r.4)

pub environment_facts : (e : Env) (n : ℕ) → length e.systems ≤ n → Seen e.systems n
    → IsEnvironment (env_tree e)
environment_facts e n b seen = record {
  well_formed = e.well_formed;
  systems = λ t i. of_system IsSystem (λ s h. h.system) t i;
  shallow = λ t i. of_system AreShallow (λ s h. h.shallow) t i;
}
  where
    of_system : (P : SystemTree → Type 0) → ((s : List Action) → KeepsFacts s → P (system_tree s))
        → (t : SystemTree) → Member (map system_tree e.systems) t → P t
    of_system P f t i =
        let r : (k : ℕ) × (s : List Action) × (k < length e.systems)
        × (slice_get e.systems k ≡ Some s) × (t ≡ system_tree s) = placed e.systems t i in
        let c : r.0 < length e.systems = r.2 in
        subst P (sym r.4) (f r.1 (seen r.0 r.1 (omega arith) r.3))
