-- Words on lists.
use Rattle.std.specs.Prelude.{◌≡◌, ℕ, zero, suc, List, [], ◌∷◌, Bool, true, false, ◌&&◌, ◌==◌}
use Rattle.std.specs.Prelude.{if◌then◌else◌, not}

-- x is one of the elements
pub data Member {A : Type 0} : List A → A → Type 0 where
  here : {x : A} {xs : List A} → Member (x ∷ xs) x
  there : {x y : A} {xs : List A} → Member xs x → Member (y ∷ xs) x

-- each element has the property
abbrev pub Each : {A : Type 0} → (A → Type 0) → List A → Type 0
Each {A} P xs = (x : A) → Member xs x → P x

-- x is element k, counted from 0
abbrev pub ElementAt : {A : Type 0} → List A → ℕ → A → Type 0
ElementAt [] k x = ⊥
ElementAt (y ∷ ys) zero x = y ≡ x
ElementAt (y ∷ ys) (suc k) x = ElementAt ys k x

-- the elements combined from the right
abbrev pub fold_right : {A B : Type 0} → (A → B → B) → B → List A → B
fold_right f b [] = b
fold_right f b (x ∷ xs) = f x (fold_right f b xs)

-- n numbers from a on
abbrev pub count : ℕ → ℕ → List ℕ
count a zero = []
count a (suc n) = a ∷ count (suc a) n

-- equal lists of numbers
abbrev pub same_numbers : List ℕ → List ℕ → Bool
same_numbers [] [] = true
same_numbers (x ∷ xs) (y ∷ ys) = (x == y) && same_numbers xs ys
same_numbers _ _ = false

-- equal truth values
abbrev pub same_bit : Bool → Bool → Bool
same_bit a b = if a then b else not b
