-- Lists of instances that grow at their end.
use Rattle.std.proofs.Common.{◌≡◌, refl, sym, ap, ◌∙◌, subst, ℕ, zero, suc, ◌+◌, ◌-◌, ◌<◌, ◌≤◌}
use Rattle.std.proofs.Common.{List, [], ◌∷◌, ◌++◌, length, map, append_assoc, length-append, arith}
use Rattle.std.specs.Prelude.{flat_map, replicate}
use Rattle.std.proofs.lemmas.List.{append-nil}
use Rattle.std.proofs.lemmas.Grind.{flat_map-append}
use Rattle.sq_term.specs.declared.model.Value.{Value}
use Rattle.sq_term.specs.declared.model.Value.TheVariants.{Index as Number}
use Rattle.sq_term.specs.Lists.{count}
use Rattle.sq_term.specs.Translate.{Times, choices}
use Rattle.sq_ground.specs.Calls.Instances.{with_index}

-- one more of those that are counted
pub count_next : {A : Type 0} (f : ℕ → A) (out longer whole : List A) (x : A) (k n : ℕ) → k < n
    → longer ≡ out ++ x ∷ [] → x ≡ f k → out ++ map f (count k (n - k)) ≡ whole
    → longer ++ map f (count (k + 1) (n - (k + 1))) ≡ whole
count_next f out longer whole x k n h l e i =
    let m : n - k ≡ suc (n - (k + 1)) = omega arith in
    let split : out ++ map f (count k (suc (n - (k + 1)))) ≡ whole =
    ap (λ q. out ++ map f (count k q)) (sym m) ∙ i in
    let next : k + 1 ≡ suc k = omega arith in
    rw (l, e) (ap (λ q. (out ++ f k ∷ []) ++ map f (count q (n - (k + 1)))) next
    ∙ (append_assoc out (f k ∷ []) (map f (count (suc k) (n - (k + 1)))) ∙ split))

pub count_done : {A : Type 0} (f : ℕ → A) (out whole : List A) (k n : ℕ) → n ≤ k
    → out ++ map f (count k (n - k)) ≡ whole → out ≡ whole
count_done f out whole k n h e =
    let m : n - k ≡ 0 = omega arith in
    sym (append-nil out) ∙ (ap (λ q. out ++ map f (count k q)) (sym m) ∙ e)

pub length-counted : {A : Type 0} (f : ℕ → A) (k n : ℕ) → length (map f (count k n)) ≡ n
length-counted f k zero = refl
length-counted f k (suc n) = ap suc (length-counted f (suc k) n)

pub map_fused : {A B C : Type 0} (g : B → C) (f : A → B) (xs : List A)
    → map g (map f xs) ≡ map (λ x. g (f x)) xs
map_fused g f [] = refl
map_fused g f (x ∷ xs) = ap (λ ys. g (f x) ∷ ys) (map_fused g f xs)

-- one more of those that are joined
pub flat_next : {A B : Type 0} (g : A → List B) (out more whole : List B) (x : A)
    (rest left : List A) → out ++ flat_map g left ≡ whole → left ≡ x ∷ rest → more ≡ g x
    → (out ++ more) ++ flat_map g rest ≡ whole
flat_next g out more whole x rest left e l m =
    append_assoc out more (flat_map g rest)
    ∙ (ap (λ ys. out ++ (ys ++ flat_map g rest)) m ∙ (ap (λ ys. out ++ flat_map g ys) (sym l) ∙ e))

pub flat_done : {A B : Type 0} (g : A → List B) (out whole : List B) (left : List A)
    → out ++ flat_map g left ≡ whole → left ≡ [] → out ≡ whole
flat_done g out whole left e l =
    sym (append-nil out) ∙ (ap (λ ys. out ++ flat_map g ys) (sym l) ∙ e)

-- a part is no longer than the whole
pub length-front : {B : Type 0} (out rest whole : List B) → out ++ rest ≡ whole
    → length out ≤ length whole
length-front out rest whole e = omega (arith, length-append out rest, ap length e)

pub length-joined : {A B : Type 0} (g : A → List B) (out whole : List B) (x : A)
    (rest left : List A) → out ++ flat_map g left ≡ whole → left ≡ x ∷ rest
    → length (g x) ≤ length whole
length-joined g out whole x rest left e l =
    let w : out ++ (g x ++ flat_map g rest) ≡ whole = ap (λ ys. out ++ flat_map g ys) (sym l) ∙ e in
    omega (
      arith,
      length-append out (g x ++ flat_map g rest),
      length-append (g x)
          (flat_map g rest),
      ap length w,
    )

flat_map-flat_map : {A B C : Type 0} (g : B → List C) (f : A → List B) (xs : List A)
    → flat_map g (flat_map f xs) ≡ flat_map (λ x. flat_map g (f x)) xs
flat_map-flat_map g f [] = refl
flat_map-flat_map g f (x ∷ xs) =
    flat_map-append g (f x) (flat_map f xs)
    ∙ ap (λ zs. flat_map g (f x) ++ zs) (flat_map-flat_map g f xs)

flat_map-map : {A B C : Type 0} (g : B → List C) (f : A → B) (xs : List A)
    → flat_map g (map f xs) ≡ flat_map (λ x. g (f x)) xs
flat_map-map g f [] = refl
flat_map-map g f (x ∷ xs) = ap (λ zs. g (f x) ++ zs) (flat_map-map g f xs)

flat_map_same : {A B : Type 0} (f g : A → List B) (xs : List A) → ((x : A) → f x ≡ g x)
    → flat_map f xs ≡ flat_map g xs
flat_map_same f g [] h = refl
flat_map_same f g (x ∷ xs) h = λ i. h x i ++ flat_map_same f g xs h i

flat_map_single : {A : Type 0} (xs : List A) → flat_map (λ x. x ∷ []) xs ≡ xs
flat_map_single [] = refl
flat_map_single (x ∷ xs) = ap (λ ys. x ∷ ys) (flat_map_single xs)

module _ (w : Times) where
  abbrev extended : List (List Value) → List (List Value)
  extended xs = flat_map (λ bs. map (with_index bs) (count 0 w.indices)) xs

  one_index : (n : ℕ) (bs : List Value)
      → choices w (suc n) bs ≡ flat_map (choices w n) (map (with_index bs) (count 0 w.indices))
  one_index n bs = flat_map-map (λ x. choices w n (x ∷ bs)) Number (count 0 w.indices)
      ∙ sym (flat_map-map (choices w n) (with_index bs) (count 0 w.indices))

  -- the choices of one more index
  choices_next : (n : ℕ) (xs : List (List Value))
      → flat_map (choices w (suc n)) xs ≡ flat_map (choices w n) (extended xs)
  choices_next n xs =
      flat_map_same (choices w (suc n))
      (λ bs. flat_map (choices w n) (map (with_index bs) (count 0 w.indices))) xs (one_index n)
      ∙ sym (flat_map-flat_map (choices w n) (λ bs. map (with_index bs) (count 0 w.indices)) xs)

  choices_done : (xs : List (List Value)) → flat_map (choices w 0) xs ≡ xs
  choices_done xs = flat_map_single xs

  some_choice : (d : ℕ) → w.indices ≡ suc d → (n : ℕ) (bs : List Value)
      → 1 ≤ length (choices w n bs)
  some_choice d e zero bs = omega arith
  some_choice d e (suc n) bs =
      let rest = flat_map (λ x. choices w n (x ∷ bs)) (map Number (count 1 d)) in
      let first : choices w (suc n) bs ≡ choices w n (Number 0 ∷ bs) ++ rest =
      ap (λ q. flat_map (λ x. choices w n (x ∷ bs)) (map Number (count 0 q))) e in
      omega (
        arith,
        ap length first,
        length-append
            (choices w n (Number 0 ∷ bs)) rest,
        some_choice d e n (Number 0 ∷ bs),
      )

  as_many : (d : ℕ) → w.indices ≡ suc d → (n : ℕ) (xs : List (List Value))
      → length xs ≤ length (flat_map (choices w n) xs)
  as_many d e n [] = omega arith
  as_many d e n (x ∷ xs) =
      omega (
        arith,
        length-append (choices w n x)
            (flat_map (choices w n) xs),
        some_choice d e n x,
        as_many d e n xs,
      )

  none_of : w.indices ≡ 0 → (xs : List (List Value)) → extended xs ≡ []
  none_of e [] = refl
  none_of e (x ∷ xs) =
      (λ i. map (with_index x) (count 0 (e i)) ++ flat_map
      (λ bs. map (with_index bs) (count 0 w.indices)) xs) ∙ none_of e xs

  -- where some of the choices are too many, all are
  choices_grow : (n : ℕ) (xs : List (List Value)) → 1024 < length (extended xs)
      → 1024 < length (flat_map (choices w n) (extended xs))
  choices_grow n xs h = by_count w.indices refl
    where
      by_count : (d : ℕ) → w.indices ≡ d → 1024 < length (flat_map (choices w n) (extended xs))
      by_count zero e = absurd (omega (arith, ap length (none_of e xs)))
      by_count (suc d) e = omega (arith, as_many d e n (extended xs))

  -- the loop over the indices of a find: after j of c
  pub choices_step : (c j : ℕ) (xs shown ys whole : List (List Value)) → j < c → shown ≡ xs
      → ys ≡ extended shown → flat_map (choices w (c - j)) xs ≡ whole
      → flat_map (choices w (c - (j + 1))) ys ≡ whole
  choices_step c j xs shown ys whole h s e r =
      let m : c - j ≡ suc (c - (j + 1)) = omega arith in
      ap (flat_map (choices w (c - (j + 1)))) (e ∙ ap extended s)
      ∙ (sym (choices_next (c - (j + 1)) xs)
      ∙ (ap (λ q. flat_map (choices w q) xs) (sym m) ∙ r))

  pub choices_too_many : (c j : ℕ) (xs shown whole : List (List Value)) → j < c → shown ≡ xs
      → flat_map (choices w (c - j)) xs ≡ whole → 1024 < length (extended shown)
      → 1024 < length whole
  choices_too_many c j xs shown whole h s r many =
      let all = choices_step c j xs shown (extended shown) whole h s refl r in
      subst (λ ys. 1024 < length ys) all (choices_grow (c - (j + 1)) shown many)

  pub choices_all : (c j : ℕ) (xs whole : List (List Value)) → c ≤ j
      → flat_map (choices w (c - j)) xs ≡ whole → xs ≡ whole
  choices_all c j xs whole h r =
      let m : c - j ≡ 0 = omega arith in
      sym (choices_done xs) ∙ (ap (λ q. flat_map (choices w q) xs) (sym m) ∙ r)

-- the choices of indices below 1, and below none

in_front : {A : Type 0} (n : ℕ) (x : A) (ys : List A)
    → replicate n x ++ x ∷ ys ≡ x ∷ (replicate n x ++ ys)
in_front zero x ys = refl
in_front (suc n) x ys = ap (λ zs. x ∷ zs) (in_front n x ys)

pub choices_of_one : (w : Times) (c : ℕ) (bs : List Value) → w.indices ≡ 1
    → choices w c bs ≡ (replicate c (Number 0) ++ bs) ∷ []
choices_of_one w zero bs e = refl
choices_of_one w (suc c) bs e =
    ap (λ n. flat_map (λ x. choices w c (x ∷ bs)) (map Number (count 0 n))) e
    ∙ (append-nil (choices w c (Number 0 ∷ bs))
    ∙ (choices_of_one w c (Number 0 ∷ bs) e ∙ ap (λ ys. ys ∷ []) (in_front c (Number 0) bs)))

pub choices_of_none : (w : Times) (c : ℕ) (bs : List Value) → w.indices ≡ 0 → 0 < c
    → choices w c bs ≡ []
choices_of_none w zero bs e h = absurd (omega arith)
choices_of_none w (suc c) bs e h =
    ap (λ n. flat_map (λ x. choices w c (x ∷ bs)) (map Number (count 0 n))) e

-- the lists of the only choice, and of none

pub none_listed : (w : Times) (c : ℕ) (bs : List Value) (ys : List (List Value)) → w.indices ≡ 0
    → (c ≡ 0 → ⊥) → ys ≡ [] → (ys ≡ choices w c bs) × (length (choices w c bs) ≤ 1024)
none_listed w c bs ys e h is =
    let none : choices w c bs ≡ [] = choices_of_none w c bs e (omega (arith, h)) in
    (is ∙ sym none, omega (arith, ap length none))

pub one_listed : (w : Times) (c : ℕ) (bs x : List Value) (zs ys : List (List Value))
    → w.indices ≤ 1 → (w.indices ≡ 0 → ⊥) → zs ≡ [] → ys ≡ zs ++ x ∷ []
    → x ≡ replicate c (Number 0) ++ bs
    → (ys ≡ choices w c bs) × (length (choices w c bs) ≤ 1024)
one_listed w c bs x zs ys few h none is at =
    let one : w.indices ≡ 1 = omega (arith, few, h) in
    let all : choices w c bs ≡ (replicate c (Number 0) ++ bs) ∷ [] = choices_of_one w c bs one in
    (is ∙ ((λ i. none i ++ at i ∷ []) ∙ sym all), omega (arith, ap length all))
