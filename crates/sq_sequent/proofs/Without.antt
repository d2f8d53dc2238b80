-- A list without one of its elements, as the program makes it.
use Rattle.std.proofs.Common.{◌≡◌, ℕ, zero, suc, ◌+◌, ◌-◌, refl, ap, ◌∙◌, List, [], ◌∷◌, ◌++◌, map}
use Rattle.std.proofs.Common.{length, take, drop, add-one}
use Rattle.std.proofs.lemmas.List.{length-map, take_rest}
use Rattle.sq_term.specs.declared.term.Term.{Term}
use Rattle.sq_sequent.specs.Premises.{without}

parts : {A : Type 0} (xs : List A) (k : ℕ) → take k xs ++ drop (suc k) xs ≡ without xs k
parts [] zero = refl
parts [] (suc k) = refl
parts (x ∷ xs) zero = refl
parts (x ∷ xs) (suc k) = ap (λ ys. x ∷ ys) (parts xs k)

pub without-parts : (xs : List Term) (k : ℕ)
    → take k xs ++ take (length xs - (k + 1)) (drop (k + 1) xs) ≡ without xs k
without-parts xs k = ap (λ ys. take k xs ++ ys) (take_rest xs (k + 1)) ∙ rw add-one (parts xs k)

pub without-map : {A B : Type 0} (f : A → B) (xs : List A) (k : ℕ)
    → map f (without xs k) ≡ without (map f xs) k
without-map f [] k = refl
without-map f (x ∷ xs) zero = refl
without-map f (x ∷ xs) (suc k) = ap (λ ys. f x ∷ ys) (without-map f xs k)

pub ruleset map_rules = (without-map, length-map)
