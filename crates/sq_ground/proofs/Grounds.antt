-- Rows of ground terms that grow at their end, and what they measure.
use Rattle.std.proofs.Common.{◌≡◌, refl, sym, ap, ◌∙◌, ℕ, suc, ◌+◌, ◌-◌, ◌<◌, ◌≤◌, max, ⊎_elim, inl}
use Rattle.std.proofs.Common.{inr, List, [], ◌∷◌, ◌++◌, length, get_or, drop, drop-cons, add-one}
use Rattle.std.proofs.Common.{arith}
use Rattle.sq_term.specs.declared.ground.GTerm.{GTerm}
use Rattle.sq_term.specs.Ground.{Ground, Grounds, none, more, ground, grounds}
use Rattle.std.specs.Prelude.{Ok}
use Rattle.sq_term.proofs.GroundViews.{ground_rules}
use Rattle.sq_term.proofs.KindNumbers.{kind_of-function_number}
use Rattle.sq_ground.specs.declared.built.Built.{Built}
use Rattle.sq_ground.specs.Calls.Builds.{Passes, AllPass, Builds}
use Rattle.sq_ground.specs.Calls.GroundMeasure.{ground_size, ground_sizes, ground_depth}
use Rattle.sq_ground.specs.Calls.GroundMeasure.{ground_depths}

-- the terms and then the rest
pub onto : List GTerm → Grounds → Grounds
onto [] gs = gs
onto (t ∷ ts) gs = more (ground t) (onto ts gs)

pub onto-empty : (gs : Grounds) → onto [] gs ≡ gs
unfolding onto
onto-empty gs = refl

pub onto-none : (ts : List GTerm) → onto ts none ≡ grounds ts
unfolding onto
onto-none [] = refl
onto-none (t ∷ ts) = ap (more (ground t)) (onto-none ts)

pub onto-push : (ts : List GTerm) (t : GTerm) (gs : Grounds)
    → onto (ts ++ t ∷ []) gs ≡ onto ts (more (ground t) gs)
unfolding onto
onto-push [] t gs = refl
onto-push (u ∷ ts) t gs = ap (more (ground u)) (onto-push ts t gs)

pub ground_sizes-onto : (ts : List GTerm) (gs : Grounds)
    → ground_sizes (onto ts gs) ≡ ground_sizes (grounds ts) + ground_sizes gs
unfolding onto
ground_sizes-onto [] gs = omega arith
ground_sizes-onto (t ∷ ts) gs = omega (arith, ground_sizes-onto ts gs)

pub ground_depths-onto : (ts : List GTerm) (gs : Grounds)
    → ground_depths (onto ts gs) ≡ max (ground_depths (grounds ts)) (ground_depths gs)
unfolding onto
ground_depths-onto [] gs = omega arith
ground_depths-onto (t ∷ ts) gs = omega (arith, ground_depths-onto ts gs)

pub ground_sizes-push : (ts : List GTerm) (t : GTerm) → ground_sizes (grounds (ts ++ t ∷ []))
    ≡ ground_sizes (grounds ts) + ground_size (ground t)
ground_sizes-push [] t = omega arith
ground_sizes-push (u ∷ ts) t = omega (arith, ground_sizes-push ts t)

pub ground_depths-push : (ts : List GTerm) (t : GTerm) → ground_depths (grounds (ts ++ t ∷ []))
    ≡ max (ground_depths (grounds ts)) (ground_depth (ground t))
ground_depths-push [] t = omega arith
ground_depths-push (u ∷ ts) t = omega (arith, ground_depths-push ts t)

-- what the functions that build terms of the built-in functions use
pub ruleset built_rules = (ground_rules, kind_of-function_number)

pub ruleset onto_rules = (
  onto-empty,
  onto-none,
  onto-push,
  ground_sizes-onto,
  ground_depths-onto,
  ground_sizes-push,
  ground_depths-push,
)

-- the first of what is left of a list
pub next_of : {A : Type 0} (xs : List A) (k : ℕ) (x : A) → k < length xs → x ≡ get_or xs k x
    → drop k xs ≡ x ∷ drop (k + 1) xs
next_of xs k x h e = rw (add-one) (drop-cons xs k x h ∙ ap (λ y. y ∷ drop (suc k) xs) (sym e))

-- a row of a function's arguments that is built from the left: what is there, with its counts, and
-- what is left of the whole row
pub record RowSoFar (out : List GTerm) (nodes deepest room : ℕ) (left whole : Grounds)
    : Type 0 where
  pub rest : onto out left ≡ whole
  pub size : nodes ≡ ground_sizes (grounds out)
  pub depth : deepest ≡ ground_depths (grounds out)
  pub in_room : nodes ≤ room
  pub in_depth : deepest ≤ 1024

pub row_start : (out : List GTerm) (room : ℕ) (whole : Grounds) → out ≡ []
    → RowSoFar out 0 0 room whole whole
row_start out room whole e =
    record {
      rest = rw e (onto-empty whole);
      size = rw e;
      depth = rw e;
      in_room =
          omega arith;
      in_depth = omega arith;
    }

-- one more is there
pub row_next : (out : List GTerm) (n d room : ℕ) (left whole : Grounds) (g : Ground)
    (rest : Grounds) (b : Built) (longer : List GTerm) (deeper : ℕ)
    → RowSoFar out n d room left whole → left ≡ more g rest → Builds (room - n) g (Ok b)
    → longer ≡ out ++ b.term ∷ [] → deeper ≡ max d b.depth
    → RowSoFar longer (n + b.size) deeper room rest whole
row_next out n d room left whole g rest b longer deeper so_far e built l m =
    let sizes = ap (λ ts. ground_sizes (grounds ts)) l ∙ ground_sizes-push out b.term in
    let depths = ap (λ ts. ground_depths (grounds ts)) l ∙ ground_depths-push out b.term in
    record {
      rest = ap (λ ts. onto ts rest) l
          ∙ (onto-push out b.term rest
          ∙ (ap (λ z. onto out (more z rest)) built.0 ∙ (ap (onto out) (sym e) ∙ so_far.rest)));
      size = omega (arith, sizes, b.size_is, so_far.size);
      depth = omega (arith, depths, b.depth_is, so_far.depth, m);
      in_room = omega (arith, built.1, so_far.in_room);
      in_depth = omega (arith, built.2, so_far.in_depth, m);
    }

-- the row is there
pub row_done : (out : List GTerm) (n d room : ℕ) (left whole : Grounds)
    → RowSoFar out n d room left whole → left ≡ none
    → (grounds out ≡ whole) × (n ≤ room) × (d ≤ 1024)
row_done out n d room left whole so_far e =
    (sym (onto-none out) ∙ (ap (onto out) (sym e) ∙ so_far.rest), so_far.in_room, so_far.in_depth)

-- what passes the limits in what is left passes them in the whole row
pub row_too_large : (out : List GTerm) (n d room : ℕ) (left whole : Grounds) (g : Ground)
    (rest : Grounds) → RowSoFar out n d room left whole → left ≡ more g rest → Passes (room - n) g
    → AllPass room whole
row_too_large out n d room left whole g rest so_far e p =
    let w : onto out (more g rest) ≡ whole = ap (onto out) (sym e) ∙ so_far.rest in
    let s : ground_sizes whole ≡ ground_sizes (grounds out) + (ground_size g + ground_sizes rest) =
    ap ground_sizes (sym w) ∙ ground_sizes-onto out (more g rest) in
    let d : ground_depths whole
    ≡ max (ground_depths (grounds out)) (max (ground_depth g) (ground_depths rest)) =
    ap ground_depths (sym w) ∙ ground_depths-onto out (more g rest) in
    ⊎_elim (λ h. inl (omega (arith, s, so_far.size, h))) (λ h. inr (omega (arith, d, h))) p
