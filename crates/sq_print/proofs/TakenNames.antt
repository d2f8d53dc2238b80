-- One more name in the set of those that are taken.
use Rattle.std.proofs.Common.{◌≡◌, ℕ, Bool, true, false, if◌then◌else◌, ◌||◌, List, ◌∷◌, refl, sym}
use Rattle.std.proofs.Common.{ap, ◌∙◌}
use Rattle.std.specs.Str.{bytes_eq}
use Rattle.std.proofs.lemmas.Bool.{false≢true}
use Rattle.std.proofs.lemmas.Slice.Eq.{bytes_eq-Decides}
use Rattle.sq_sym.specs.Candidates.{among}
use Rattle.sq_sym.proofs.Candidates.{differ, equal}

bytes_eq-sym : (x y : List ℕ) → bytes_eq x y ≡ bytes_eq y x
bytes_eq-sym x y = by (bytes_eq y x) refl
  where
    by : (b : Bool) → bytes_eq y x ≡ b → bytes_eq x y ≡ b
    by true e = equal x y (sym ((bytes_eq-Decides y x).0 e))
    by false e = differ x y (λ h. false≢true (sym e ∙ equal y x (sym h)))

-- a name is in the set, or in the rest of the list
pub one_taken : (x q : List ℕ) (rest : List (List ℕ)) (old new : Bool)
    → new ≡ (if bytes_eq x q then true else old) → (new || among q rest)
    ≡ (old || among q (x ∷ rest))
one_taken x q rest old new e =
    ap (λ b. b || among q rest) (e ∙ ap (λ b. (if b then true else old)) (bytes_eq-sym x q))
    ∙ by (bytes_eq q x) old
  where
    by : (b o : Bool) → ((if b then true else o) || among q rest) ≡ (o || (b || among q rest))
    by true true = refl
    by true false = refl
    by false true = refl
    by false false = refl
