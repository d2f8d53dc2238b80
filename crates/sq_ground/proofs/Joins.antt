-- Ground terms that are joined from the right, and what they measure.
use Rattle.std.proofs.Common.{◌≡◌, refl, sym, ap, ◌∙◌, subst, ℕ, suc, ◌+◌, ◌-◌, ◌≤◌, max}
use Rattle.std.proofs.Common.{append_assoc, ⊎_elim, inl, inr, List, [], ◌∷◌, ◌++◌, map, length}
use Rattle.std.proofs.Common.{length-append, arith}
use Rattle.std.proofs.lemmas.List.{map-append, append-nil, length-map}
use Rattle.sq_term.specs.Lists.{fold_right}
use Rattle.sq_term.specs.Symbols.{Kind}
use Rattle.sq_term.specs.GroundFormulas.{binary, conditional}
use Rattle.sq_ground.specs.Calls.GroundMeasure.{ground_size, ground_depth, total, deepest}
use Rattle.sq_ground.specs.Calls.Builds.{Passes, Builds}
use Rattle.std.specs.Prelude.{Ok}
use Rattle.sq_term.specs.Ground.{Ground, ground}
use Rattle.sq_ground.specs.declared.built.Built.{Built}
use Rattle.sq_ground.specs.Calls.Rows.{built_ground, joined, nested, RowPasses}

pub fold_right-push : {A B : Type 0} (h : A → B → B) (z : B) (xs : List A) (x : A)
    → fold_right h z (xs ++ x ∷ []) ≡ fold_right h (h x z) xs
fold_right-push h z [] x = refl
fold_right-push h z (y ∷ xs) x = ap (h y) (fold_right-push h z xs x)

-- what is joined to the last of the terms
pub joined-push : (f unit : Kind) (xs : List Ground) (y : Ground)
    → joined f unit (xs ++ y ∷ []) ≡ fold_right (binary f) y xs
joined-push f unit [] y = refl
joined-push f unit (x ∷ []) y = refl
joined-push f unit (x ∷ z ∷ xs) y = ap (binary f x) (joined-push f unit (z ∷ xs) y)

-- more is joined to what passes the limits
pub fold_passes : (room : ℕ) (f : Kind) (z : Ground) (xs : List Ground) → Passes room z
    → Passes room (fold_right (binary f) z xs)
fold_passes room f z [] p = p
fold_passes room f z (x ∷ xs) p =
    ⊎_elim (λ h. inl (omega arith)) (λ h. inr (omega arith)) (fold_passes room f z xs p)

pub nested-push : (ts fs : List Ground) (t f z : Ground) → length ts ≡ length fs
    → nested (ts ++ t ∷ []) (fs ++ f ∷ []) z ≡ nested ts fs (conditional t f z)
nested-push [] [] t f z e = refl
nested-push [] (y ∷ fs) t f z e = absurd (omega arith)
nested-push (x ∷ ts) [] t f z e = absurd (omega arith)
nested-push (x ∷ ts) (y ∷ fs) t f z e = ap (conditional x y) (nested-push ts fs t f z (omega arith))

pub nested_passes : (room : ℕ) (z : Ground) (ts fs : List Ground) → Passes room z
    → Passes room (nested ts fs z)
nested_passes room z [] fs p = p
nested_passes room z (t ∷ ts) [] p = p
nested_passes room z (t ∷ ts) (f ∷ fs) p =
    ⊎_elim (λ h. inl (omega arith)) (λ h. inr (omega arith)) (nested_passes room z ts fs p)

-- a row that is joined from the right: the parts that are left, and what the others are joined to
pub record JoinSoFar (f : Kind) (room : ℕ) (parts : List Built) (all : Built) (whole : Ground)
    : Type 0 where
  pub rest : fold_right (binary f) (ground all.term) (map built_ground parts) ≡ whole
  pub in_room : all.size ≤ room
  pub in_depth : all.depth ≤ 1024

at_end : (parts first : List Built) (last : Built) → parts ≡ first ++ last ∷ []
    → map built_ground parts ≡ map built_ground first ++ ground last.term ∷ []
at_end parts first last e = ap (map built_ground) e ∙ map-append built_ground first (last ∷ [])

module _ (f : Kind) (room : ℕ) where
  pub join_start : (unit : Kind) (parts first : List Built) (last all : Built)
      → parts ≡ first ++ last ∷ [] → Builds room (ground last.term) (Ok all)
      → JoinSoFar f room first all (joined f unit (map built_ground parts))
  join_start unit parts first last all e b = record {
    rest = ap (λ z. fold_right (binary f) z (map built_ground first)) b.0
        ∙ (sym (joined-push f unit (map built_ground first) (ground last.term))
        ∙ ap (joined f unit) (sym (at_end parts first last e)));
    in_room = b.1;
    in_depth = b.2;
  }

  pub last_passes : (unit : Kind) (parts first : List Built) (last : Built)
      → parts ≡ first ++ last ∷ [] → Passes room (ground last.term)
      → Passes room (joined f unit (map built_ground parts))
  last_passes unit parts first last e p =
      subst (Passes room) (sym (joined-push f unit (map built_ground first) (ground last.term))
      ∙ ap (joined f unit) (sym (at_end parts first last e)))
      (fold_passes room f (ground last.term) (map built_ground first) p)

  one_less : (parts first : List Built) (x all : Built) (whole : Ground) → parts ≡ first ++ x ∷ []
      → JoinSoFar f room parts all whole
      → fold_right (binary f) (binary f (ground x.term) (ground all.term)) (map built_ground first)
      ≡ whole
  one_less parts first x all whole e so_far =
      sym (fold_right-push (binary f) (ground all.term) (map built_ground first) (ground x.term))
      ∙ (ap (fold_right (binary f) (ground all.term)) (sym (at_end parts first x e))
      ∙ so_far.rest)

  pub join_step : (parts first : List Built) (x all next : Built) (whole : Ground)
      → parts ≡ first ++ x ∷ [] → Builds room (binary f (ground x.term) (ground all.term)) (Ok next)
      → JoinSoFar f room parts all whole → JoinSoFar f room first next whole
  join_step parts first x all next whole e b so_far = record {
    rest = ap (λ z. fold_right (binary f) z (map built_ground first)) b.0
        ∙ one_less parts first x all whole e so_far;
    in_room = b.1;
    in_depth = b.2;
  }

  pub step_passes : (parts first : List Built) (x all : Built) (whole : Ground)
      → parts ≡ first ++ x ∷ [] → Passes room (binary f (ground x.term) (ground all.term))
      → JoinSoFar f room parts all whole → Passes room whole
  step_passes parts first x all whole e p so_far =
      subst (Passes room) (one_less parts first x all whole e so_far)
      (fold_passes room f _ (map built_ground first) p)

  pub join_done : (parts : List Built) (all : Built) (whole : Ground) → parts ≡ []
      → JoinSoFar f room parts all whole → Builds room whole (Ok all)
  join_done parts all whole e so_far = (
    ap (λ ps. fold_right (binary f) (ground all.term) (map built_ground ps)) (sym e)
        ∙ so_far.rest,
    so_far.in_room,
    so_far.in_depth,
  )

-- the same of conditionals
pub record NestSoFar (room : ℕ) (tests founds : List Built) (all : Built) (whole : Ground)
    : Type 0 where
  pub rest : nested (map built_ground tests) (map built_ground founds) (ground all.term) ≡ whole
  pub as_many : length tests ≡ length founds
  pub in_room : all.size ≤ room
  pub in_depth : all.depth ≤ 1024

module _ (room : ℕ) where
  one_choice_less : (tests first founds front : List Built) (t f all : Built) (whole : Ground)
      → tests ≡ first ++ t ∷ [] → founds ≡ front ++ f ∷ [] → length first ≡ length front
      → NestSoFar room tests founds all whole
      → nested (map built_ground first) (map built_ground front)
      (conditional (ground t.term) (ground f.term) (ground all.term)) ≡ whole
  one_choice_less tests first founds front t f all whole e d n so_far =
      let m : length (map built_ground first) ≡ length (map built_ground front) =
      length-map first built_ground ∙ (n ∙ sym (length-map front built_ground)) in
      sym (nested-push (map built_ground first) (map built_ground front) (ground t.term)
      (ground f.term) (ground all.term) m)
      ∙ ((λ i. nested (sym (at_end tests first t e) i) (sym (at_end founds front f d) i)
      (ground all.term)) ∙ so_far.rest)

  shorter : (tests first founds front : List Built) (t f : Built) → tests ≡ first ++ t ∷ []
      → founds ≡ front ++ f ∷ [] → length tests ≡ length founds → length first ≡ length front
  shorter tests first founds front t f e d n =
      omega (
        arith,
        ap length e,
        ap length d,
        length-append first (t ∷ []),
        length-append front
            (f ∷ []),
        n,
      )

  pub nest_step : (tests first founds front : List Built) (t f all next : Built) (whole : Ground)
      → tests ≡ first ++ t ∷ [] → founds ≡ front ++ f ∷ []
      → Builds room (conditional (ground t.term) (ground f.term) (ground all.term)) (Ok next)
      → NestSoFar room tests founds all whole → NestSoFar room first front next whole
  nest_step tests first founds front t f all next whole e d b so_far =
      let n = shorter tests first founds front t f e d so_far.as_many in
      record {
        rest = ap (nested (map built_ground first) (map built_ground front)) b.0
            ∙ one_choice_less tests first founds front t f all whole e d n so_far;
        as_many = n;
        in_room = b.1;
        in_depth = b.2;
      }

  pub choice_passes : (tests first founds front : List Built) (t f all : Built) (whole : Ground)
      → tests ≡ first ++ t ∷ [] → founds ≡ front ++ f ∷ []
      → Passes room (conditional (ground t.term) (ground f.term) (ground all.term))
      → NestSoFar room tests founds all whole → Passes room whole
  choice_passes tests first founds front t f all whole e d p so_far =
      subst (Passes room)
      (one_choice_less tests first founds front t f all whole e d
      (shorter tests first founds front t f e d so_far.as_many) so_far)
      (nested_passes room _ (map built_ground first) (map built_ground front) p)

  pub nest_done : (tests founds : List Built) (all : Built) (whole : Ground) → tests ≡ []
      → NestSoFar room tests founds all whole → Builds room whole (Ok all)
  nest_done tests founds all whole e so_far = (
    ap (λ ts. nested (map built_ground ts) (map built_ground founds) (ground all.term)) (sym e)
        ∙ so_far.rest,
    so_far.in_room,
    so_far.in_depth,
  )

  pub no_found : (tests first founds : List Built) (t all : Built) (whole : Ground)
      → tests ≡ first ++ t ∷ [] → founds ≡ [] → NestSoFar room tests founds all whole → ⊥
  no_found tests first founds t all whole e d so_far = let n : length tests ≡ suc (length first) =
      omega (arith, ap length e, length-append first (t ∷ [])) in let m : length founds ≡ 0 =
      ap length d in omega (arith, so_far.as_many)

-- a row that is built from the left: the parts that are there, and what is left of the whole row
pub record PartsSoFar (parts : List Built) (nodes room : ℕ) (left whole : List Ground)
    : Type 0 where
  pub rest : map built_ground parts ++ left ≡ whole
  pub size : nodes ≡ total (map built_ground parts)
  pub in_room : nodes ≤ room

total-append : (xs ys : List Ground) → total (xs ++ ys) ≡ total xs + total ys
total-append [] ys = omega arith
total-append (x ∷ xs) ys = omega (arith, total-append xs ys)

deepest-append : (xs ys : List Ground) → deepest (xs ++ ys) ≡ max (deepest xs) (deepest ys)
deepest-append [] ys = omega arith
deepest-append (x ∷ xs) ys = omega (arith, deepest-append xs ys)

pub parts_start : (parts : List Built) (room : ℕ) (whole : List Ground) → parts ≡ []
    → PartsSoFar parts 0 room whole whole
parts_start parts room whole e = record { rest = rw e; size = rw e; in_room = omega arith }

pub parts_next : (parts longer : List Built) (b : Built) (n room : ℕ)
    (left whole rest : List Ground) (g : Ground)
    → PartsSoFar parts n room left whole → left ≡ g ∷ rest → Builds (room - n) g (Ok b)
    → longer ≡ parts ++ b ∷ [] → PartsSoFar longer (n + b.size) room rest whole
parts_next parts longer b n room left whole rest g so_far e built l =
    let pushed : map built_ground longer ≡ map built_ground parts ++ g ∷ [] =
    ap (map built_ground) l
    ∙ (map-append built_ground parts (b ∷ [])
    ∙ ap (λ x. map built_ground parts ++ x ∷ []) built.0) in
    record {
      rest = ap (λ xs. xs ++ rest) pushed
          ∙ (append_assoc (map built_ground parts) (g ∷ []) rest
          ∙ (ap (λ xs. map built_ground parts ++ xs) (sym e) ∙ so_far.rest));
      size = omega (
        arith,
        ap total pushed,
        total-append (map built_ground parts)
            (g ∷ []),
        so_far.size,
        b.size_is,
        ap ground_size built.0,
      );
      in_room = omega (arith, so_far.in_room, built.1);
    }

pub parts_too_large : (parts : List Built) (n room : ℕ) (left whole rest : List Ground) (g : Ground)
    → PartsSoFar parts n room left whole → left ≡ g ∷ rest → Passes (room - n) g
    → RowPasses room whole
parts_too_large parts n room left whole rest g so_far e p =
    let w : map built_ground parts ++ g ∷ rest ≡ whole =
    ap (λ xs. map built_ground parts ++ xs) (sym e) ∙ so_far.rest in
    let t : total whole ≡ total (map built_ground parts) + (ground_size g + total rest) =
    ap total (sym w) ∙ total-append (map built_ground parts) (g ∷ rest) in
    let d : deepest whole ≡ max (deepest (map built_ground parts))
    (max (ground_depth g) (deepest rest)) =
    ap deepest (sym w) ∙ deepest-append (map built_ground parts) (g ∷ rest) in
    ⊎_elim (λ h. inl (omega (arith, t, so_far.size, h))) (λ h. inr (omega (arith, d, h))) p

pub parts_done : (parts : List Built) (n room : ℕ) (left whole : List Ground)
    → PartsSoFar parts n room left whole → left ≡ []
    → (map built_ground parts ≡ whole) × (n ≡ total whole) × (n ≤ room)
parts_done parts n room left whole so_far e =
    let w : map built_ground parts ≡ whole = sym (append-nil (map built_ground parts))
    ∙ (ap (λ xs. map built_ground parts ++ xs) (sym e) ∙ so_far.rest) in
    (w, so_far.size ∙ ap total w, so_far.in_room)
