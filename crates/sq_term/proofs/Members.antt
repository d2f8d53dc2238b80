-- Members of lists.
use Rattle.std.proofs.Common.{◌≡◌, refl, subst, List, [], ◌∷◌, ◌++◌, map}
use Rattle.std.specs.Prelude.{ℕ, zero, suc, flat_map}
use Rattle.sq_term.specs.Lists.{Member, here, there, Each, ElementAt}

pub member-append_left : {A : Type 0} (xs ys : List A) (x : A) → Member xs x → Member (xs ++ ys) x
member-append_left [] ys x i = elim i [ ]
member-append_left (y ∷ xs) ys x here = here
member-append_left (y ∷ xs) ys x (there i) = there (member-append_left xs ys x i)

pub member-append_right : {A : Type 0} (xs ys : List A) (x : A) → Member ys x → Member (xs ++ ys) x
member-append_right [] ys x i = i
member-append_right (y ∷ xs) ys x i = there (member-append_right xs ys x i)

pub member-map : {A B : Type 0} (f : A → B) (xs : List A) (x : A) → Member xs x
    → Member (map f xs) (f x)
member-map f [] z i = elim i [ ]
member-map f (x ∷ xs) z here = here
member-map f (y ∷ xs) x (there i) = there (member-map f xs x i)

pub member-map_from : {A B : Type 0} (f : A → B) (xs : List A) (y : B) → Member (map f xs) y
    → (x : A) × Member xs x × (y ≡ f x)
member-map_from f [] y i = elim i [ ]
member-map_from f (x ∷ xs) y here = (x, here, refl)
member-map_from {A} f (x ∷ xs) y (there i) = let r : (z : A) × Member xs z × (y ≡ f z) =
    member-map_from f xs y i in (r.0, there r.1, r.2)

pub member-flat_map : {A B : Type 0} (f : A → List B) (xs : List A) (x : A) (y : B) → Member xs x
    → Member (f x) y → Member (flat_map f xs) y
member-flat_map f [] x y i j = elim i [ ]
member-flat_map f (x ∷ xs) z y here j = member-append_left (f x) (flat_map f xs) y j
member-flat_map f (x ∷ xs) z y (there i) j =
    member-append_right (f x) (flat_map f xs) y (member-flat_map f xs z y i j)

pub element-member : {A : Type 0} (xs : List A) (k : ℕ) (x : A) → ElementAt xs k x → Member xs x
element-member [] k x h = absurd h
element-member (y ∷ ys) zero x h = subst (λ z. Member (y ∷ ys) z) h here
element-member (y ∷ ys) (suc k) x h = there (element-member ys k x h)

pub member-element : {A : Type 0} (xs : List A) (x : A) → Member xs x → (k : ℕ) × ElementAt xs k x
member-element [] x i = elim i [ ]
member-element (y ∷ ys) z here = (0, refl)
member-element {A} (y ∷ ys) z (there i) = let r : (k : ℕ) × ElementAt ys k z =
    member-element ys z i in (suc r.0, r.1)

-- each element of a list
pub each-append : {A : Type 0} (xs ys : List A) (P : A → Type 0) → Each P xs → Each P ys
    → Each P (xs ++ ys)
each-append [] ys P hx hy y i = hy y i
each-append (x ∷ xs) ys P hx hy y here = hx y here
each-append (x ∷ xs) ys P hx hy y (there i) = each-append xs ys P (λ z j. hx z (there j)) hy y i

pub each-map : {A B : Type 0} (f : A → B) (xs : List A) (P : B → Type 0) → Each (λ x. P (f x)) xs
    → Each P (map f xs)
each-map f [] P h y i = elim i [ ]
each-map f (x ∷ xs) P h y here = h x here
each-map f (x ∷ xs) P h y (there i) = each-map f xs P (λ z j. h z (there j)) y i

pub each-flat_map : {A B : Type 0} (f : A → List B) (xs : List A) (P : B → Type 0)
    → Each (λ x. Each P (f x)) xs → Each P (flat_map f xs)
each-flat_map f [] P h y i = elim i [ ]
each-flat_map f (x ∷ xs) P h y i =
    each-append (f x) (flat_map f xs) P (h x here) (each-flat_map f xs P (λ z j. h z (there j))) y i

pub each_none : {A : Type 0} (P : A → Type 0) → Each P []
each_none P x i = elim i [ ]

pub each_cons : {A : Type 0} (x : A) (xs : List A) (P : A → Type 0) → P x → Each P xs
    → Each P (x ∷ xs)
each_cons x xs P h hs y here = h
each_cons x xs P h hs y (there i) = hs y i

pub each_single : {A : Type 0} (x : A) (P : A → Type 0) → P x → Each P (x ∷ [])
each_single x P h = each_cons x [] P h (each_none P)

pub each_pair : {A : Type 0} (x y : A) (P : A → Type 0) → P x → P y → Each P (x ∷ y ∷ [])
each_pair x y P p q = each_cons x (y ∷ []) P p (each_single y P q)

pub each-push : {A : Type 0} (xs : List A) (x : A) (P : A → Type 0) → Each P xs → P x
    → Each P (xs ++ x ∷ [])
each-push xs x P h p = each-append xs (x ∷ []) P h (each_single x P p)
