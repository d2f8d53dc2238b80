-- Where an occurrence stands in what a quantifier or a find unfolds to.
use Rattle.std.proofs.Common.{ℕ, zero, suc, ◌⊎◌, inl, inr, ⊎_elim, List, [], ◌∷◌, ◌++◌}
use Rattle.std.proofs.Common.{map, flat_map, Bool, true, false}
use Rattle.sq_base.specs.declared.sort.Sort.{Sort}
use Rattle.sq_base.specs.declared.sort.Sort.TheVariants.{Index}
use Rattle.sq_term.specs.declared.model.Value.{Value}
use Rattle.sq_term.specs.declared.signature.FunDecl.{FunDecl}
use Rattle.sq_term.specs.Ground.{Ground}
use Rattle.sq_term.specs.GroundFormulas.{conditional, truth_of, conj, disj_of_all}
use Rattle.sq_term.specs.GroundOccurrences.{Role, occurrences}
use Rattle.sq_term.specs.Lists.{Member, here, there, fold_right}
use Rattle.sq_term.specs.Translate.{Times, domain, choices}
use Rattle.sq_ground.specs.Holding.{Fits}
use Rattle.sq_occ.specs.Entries.{with_indices}
use Rattle.sq_occ.proofs.Roles.{member-append_from, member-either}

member-flat_map_from : {A B : Type 0} (f : A → List B) (xs : List A) (y : B)
    → Member (flat_map f xs) y → (x : A) × Member xs x × Member (f x) y
member-flat_map_from f [] y i = elim i [ ]
member-flat_map_from {A} f (x ∷ xs) y i =
    go (member-append_from (f x) (flat_map f xs) y i) (λ j. member-flat_map_from f xs y j)
  where
    go : Member (f x) y ⊎ Member (flat_map f xs) y
        → (Member (flat_map f xs) y → (z : A) × Member xs z × Member (f z) y)
        → (z : A) × Member (x ∷ xs) z × Member (f z) y
    go (inl j) later = (x, here, j)
    go (inr j) later = let r : (z : A) × Member xs z × Member (f z) y = later j in
        (r.0, there r.1, r.2)

-- the choices of a find fit its indices
pub choices_fit : (w : Times) (c : ℕ) (b : List Sort) (es : List Value) → Fits w b es
    → (xs : List Value) → Member (choices w c es) xs → Fits w (with_indices c b) xs
choices_fit w zero b es h xs here = h
choices_fit w zero b es h xs (there i) = elim i [ ]
choices_fit w (suc c) b es h xs i =
    let r : (x : Value) × Member (domain w Index) x × Member (choices w c (x ∷ es)) xs =
    member-flat_map_from (λ x. choices w c (x ∷ es)) (domain w Index) xs i in
    choices_fit w c (Index ∷ b) (r.0 ∷ es) (r.1, h) xs r.2

module _ (funs : List FunDecl) (n : ℕ) (js : List ℕ) where
  abbrev Uses : Bool → Ground → Role → Type 0
  Uses side t r = Member (occurrences funs n js side t) r

  pub in_conj : (side : Bool) (f : Value → Ground) (xs : List Value) (r : Role)
      → Uses side (conj (map f xs)) r
      → (x : Value) × Member xs x × (s : Bool) × Uses s (f x) r
  in_conj side f [] r i = elim i [ ]
  in_conj side f (x ∷ []) r i = (x, here, side, i)
  in_conj side f (x ∷ y ∷ xs) r i =
      go (member-either (occurrences funs n js false (f x)) _ r i) (in_conj false f (y ∷ xs) r)
    where
      go : Uses false (f x) r ⊎ Uses false (conj (map f (y ∷ xs))) r
          → (Uses false (conj (map f (y ∷ xs))) r
          → (z : Value) × Member (y ∷ xs) z × (s : Bool) × Uses s (f z) r)
          → (z : Value) × Member (x ∷ y ∷ xs) z × (s : Bool) × Uses s (f z) r
      go (inl j) later = (x, here, false, j)
      go (inr j) later =
          let q : (z : Value) × Member (y ∷ xs) z × (s : Bool) × Uses s (f z) r = later j in
          (q.0, there q.1, q.2, q.3)

  pub in_disj : (side : Bool) (f : Value → Ground) (xs : List Value) (r : Role)
      → Uses side (disj_of_all (map f xs)) r
      → (x : Value) × Member xs x × (s : Bool) × Uses s (f x) r
  in_disj side f [] r i = elim i [ ]
  in_disj side f (x ∷ []) r i = (x, here, side, i)
  in_disj side f (x ∷ y ∷ xs) r i =
      go (member-either (occurrences funs n js false (f x)) _ r i) (in_disj false f (y ∷ xs) r)
    where
      go : Uses false (f x) r ⊎ Uses false (disj_of_all (map f (y ∷ xs))) r
          → (Uses false (disj_of_all (map f (y ∷ xs))) r
          → (z : Value) × Member (y ∷ xs) z × (s : Bool) × Uses s (f z) r)
          → (z : Value) × Member (x ∷ y ∷ xs) z × (s : Bool) × Uses s (f z) r
      go (inl j) later = (x, here, false, j)
      go (inr j) later =
          let q : (z : Value) × Member (y ∷ xs) z × (s : Bool) × Uses s (f z) r = later j in
          (q.0, there q.1, q.2, q.3)

  pub in_truth : (side b : Bool) (r : Role) → Uses side (truth_of b) r → ⊥
  in_truth side true r i = elim i [ ]
  in_truth side false r i = elim i [ ]

  -- in one of its choices, or behind them all
  abbrev pub InFind : (List Value → Ground) → (List Value → Ground) → Ground → List (List Value)
      → Role → Type 0
  InFind f g o xss r =
      ((xs : List Value) × Member xss xs × (Uses false (f xs) r ⊎ Uses false (g xs) r))
      ⊎ ((s : Bool) × Uses s o r)

  pub in_find : (side : Bool) (f g : List Value → Ground) (o : Ground) (xss : List (List Value))
      (r : Role)
      → Uses side (fold_right (λ xs rest. conditional (f xs) (g xs) rest) o xss) r
      → InFind f g o xss r
  in_find side f g o [] r i = inr (side, i)
  in_find side f g o (xs ∷ xss) r i =
      go (member-append_from (occurrences funs n js false (f xs)) _ r i)
      (in_find false f g o xss r)
    where
      rest : Ground
      rest = fold_right (λ xs rest. conditional (f xs) (g xs) rest) o xss

      second : (Uses false rest r → InFind f g o xss r) → Uses false (g xs) r ⊎ Uses false rest r
          → InFind f g o (xs ∷ xss) r
      second later (inl j) = inl (xs, here, inr j)
      second later (inr j) =
          ⊎_elim (λ k. inl (k.0, there k.1, k.2)) (λ k. inr k) (later j)

      go : Uses false (f xs) r
          ⊎ Member
          (occurrences funs n js false (g xs) ++ (occurrences funs n js false rest ++ [])) r
          → (Uses false rest r → InFind f g o xss r) → InFind f g o (xs ∷ xss) r
      go (inl j) later = inl (xs, here, inl j)
      go (inr j) later = second later (member-either (occurrences funs n js false (g xs)) _ r j)
