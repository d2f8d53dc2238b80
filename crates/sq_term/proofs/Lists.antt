-- Look-ups in lists, and maps and folds that agree.
use Rattle.std.proofs.Common.{◌≡◌, refl, ap, ◌∙◌, ℕ, zero, suc, ◌<◌, List, [], ◌∷◌, ◌++◌, length}
use Rattle.std.proofs.Common.{map, arith}
use Rattle.std.specs.Prelude.{get_or}
use Rattle.sq_term.specs.Lists.{Member, here, there, fold_right}

pub get_or-front : {A : Type 0} (xs ys : List A) (k : ℕ) (d : A) → k < length xs
    → get_or (xs ++ ys) k d ≡ get_or xs k d
get_or-front [] ys k d h = absurd (omega arith)
get_or-front (x ∷ xs) ys zero d h = refl
get_or-front (x ∷ xs) ys (suc k) d h = get_or-front xs ys k d (omega arith)

pub get_or-last : {A : Type 0} (xs : List A) (x d : A) → get_or (xs ++ x ∷ []) (length xs) d ≡ x
get_or-last [] x d = refl
get_or-last (y ∷ xs) x d = get_or-last xs x d

pub map_same : {A B : Type 0} (f g : A → B) (xs : List A) → ((x : A) → Member xs x → f x ≡ g x)
    → map f xs ≡ map g xs
map_same f g [] h = refl
map_same f g (x ∷ xs) h = cc (h x here, map_same f g xs (λ y i. h y (there i)))

pub fold_same : {A C : Type 0} (F G : A → C → C) (xs : List A)
    → ((x : A) → Member xs x → (r : C) → F x r ≡ G x r) → (b : C)
    → fold_right F b xs ≡ fold_right G b xs
fold_same F G [] e b = refl
fold_same F G (x ∷ xs) e b = ap (F x) (fold_same F G xs (λ y i. e y (there i)) b)
    ∙ e x here (fold_right G b xs)
