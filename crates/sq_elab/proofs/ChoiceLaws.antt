-- The parts of a parallel add no choice to those of the way to it.
use Rattle.std.proofs.Common.{◌≡◌, ℕ, zero, suc, ◌+◌, ◌<◌, List, [], ◌∷◌, ◌++◌, Bool, true, false}
use Rattle.std.proofs.Common.{Option, Some, None, replicate, refl, sym, ap, ◌∙◌, arith}
use Rattle.std.proofs.Common.{append_assoc, append-nil}
use Rattle.sq_term.specs.declared.action.PathStep.{PathStep}
use Rattle.sq_term.specs.declared.action.PathStep.TheVariants.{Side, Done}
use Rattle.sq_term.specs.Systems.{choices_from, found_choice, indices_bound}
use Rattle.sq_elab.proofs.PathLaws.{same_step_itself, along, closed-path-at}
use Rattle.sq_elab.specs.Laws.{PartsDoNotExclude}
use Rattle.sq_elab.specs.Ways.{part, done, sides, marks, path, closed_path}

choices-front : (n : ℕ) (p q r : List PathStep)
    → choices_from n (p ++ q) (p ++ r) ≡ choices_from n p p ++ choices_from (n + along p) q r
choices-front n [] q r =
    let same : n ≡ n + 0 = omega arith in
    (λ i. choices_from (same i) q r)
choices-front n (s ∷ p) q r =
    let m = n + indices_bound s in
    let same : m + along p ≡ n + (indices_bound s + along p) = omega arith in
    rw (same_step_itself s)
    (ap (λ cs. found_choice n s ++ cs) (choices-front m p q r)
    ∙ (sym (append_assoc (found_choice n s) (choices_from m p p) (choices_from (m + along p) q r))
    ∙ (λ i. (found_choice n s ++ choices_from m p p) ++ choices_from (same i) q r)))

-- left is no choice against right
sides-left : (n i j : ℕ) (x y : List PathStep) → i < j
    → choices_from n (replicate i (Side true) ++ (Side false ∷ x)) (replicate j (Side true) ++ y)
    ≡ []
sides-left n i zero x y h = absurd (omega arith)
sides-left n zero (suc j) x y h = refl
sides-left n (suc i) (suc j) x y h = sides-left (n + 0) i j x y (omega arith)

sides-right : (n i j : ℕ) (x y : List PathStep) → i < j
    → choices_from n (replicate j (Side true) ++ y) (replicate i (Side true) ++ (Side false ∷ x))
    ≡ []
sides-right n i zero x y h = absurd (omega arith)
sides-right n zero (suc j) x y h = refl
sides-right n (suc i) (suc j) x y h = sides-right (n + 0) i j x y (omega arith)

done-first : (n : ℕ) (a : Option ℕ) (p q : List PathStep)
    → ((m : ℕ) → choices_from m p q ≡ []) → choices_from n (done a ++ p) (done a ++ q) ≡ []
done-first n None p q h = h n
done-first n (Some a) p q h = h (n + 0)

-- what is behind a part, with its sides in front
left-part : (i : ℕ) (a : Option ℕ) (x : List PathStep)
    → marks (part i true a) ++ x ≡ done a ++ (replicate i (Side true) ++ (Side false ∷ x))
left-part i a x =
    append_assoc (done a) (sides i true) x
    ∙ ap (λ p. done a ++ p) (append_assoc (replicate i (Side true)) (Side false ∷ []) x)

last-sides : Bool → List PathStep
last-sides true = Side false ∷ []
last-sides false = []

any-part : (j : ℕ) (more : Bool) (a : Option ℕ) (y : List PathStep)
    → marks (part j more a) ++ y ≡ done a ++ (replicate j (Side true) ++ (last-sides more ++ y))
unfolding last-sides
any-part j true a y =
    append_assoc (done a) (sides j true) y
    ∙ ap (λ p. done a ++ p) (append_assoc (replicate j (Side true)) (Side false ∷ []) y)
any-part j false a y =
    append_assoc (done a) (sides j false) y
    ∙ ap (λ p. done a ++ p) (append_assoc (replicate j (Side true)) [] y)

pub parts_do_not_exclude : PartsDoNotExclude
parts_do_not_exclude i j more a u v w h =
    let x = path u ++ Done ∷ [] in
    let y = path v ++ Done ∷ [] in
    let left = replicate i (Side true) ++ (Side false ∷ x) in
    let right = replicate j (Side true) ++ (last-sides more ++ y) in
    let first : closed_path (u ++ part i true a ∷ w) ≡ path w ++ (done a ++ left) =
    closed-path-at u w (part i true a) ∙ ap (λ p. path w ++ p) (left-part i a x) in
    let second : closed_path (v ++ part j more a ∷ w) ≡ path w ++ (done a ++ right) =
    closed-path-at v w (part j more a) ∙ ap (λ p. path w ++ p) (any-part j more a y) in
    let n = along (path w) in
    let none : choices_from (0 + n) (done a ++ left) (done a ++ right) ≡ [] =
    done-first (0 + n) a left right (λ m. sides-left m i j x (last-sides more ++ y) h) in
    let none_back : choices_from (0 + n) (done a ++ right) (done a ++ left) ≡ [] =
    done-first (0 + n) a right left (λ m. sides-right m i j x (last-sides more ++ y) h) in
    let common = choices_from 0 (path w) (path w) in (
      (λ k. choices_from 0 (first k) (second k))
          ∙ (choices-front 0 (path w) (done a ++ left) (done a ++ right)
          ∙ (ap (λ cs. common ++ cs) none ∙ append-nil common)),
      (λ k. choices_from 0 (second k) (first k))
          ∙ (choices-front 0 (path w) (done a ++ right) (done a ++ left)
          ∙ (ap (λ cs. common ++ cs) none_back ∙ append-nil common)),
    )
