-- Ways that share their fronts, and ways step by step.
use Rattle.std.proofs.Common.{◌≡◌, ℕ, zero, suc, ◌+◌, ◌-◌, ◌<◌, ◌≤◌, List, [], ◌∷◌, ◌++◌, length}
use Rattle.std.proofs.Common.{take, get_or, ◌⊎◌, inl, inr, Some, Option, refl, sym, ap, ◌∙◌, subst}
use Rattle.std.proofs.Common.{arith, slice_get, reverse}
use Rattle.std.proofs.Common.{append_assoc}
use Rattle.std.specs.Prelude.{unwrap_or}
use Rattle.std.proofs.lemmas.List.{reverse-append}
use Rattle.sq_elab.specs.declared.step.Step.{Step as Passed}
use Rattle.sq_elab.specs.Steps.{step_tree, way_behind, way_of, steps_in, ways_behind, steps_at}
use Rattle.sq_elab.specs.Steps.{AreBehind}
use Rattle.sq_term.specs.declared.action.PathStep.{PathStep}
use Rattle.sq_elab.specs.Ways.{Way, marks, path}

-- ---- ways that share their fronts

abbrev Ways : Type 0
Ways = List (List Passed)

abbrev Links : Type 0
Links = List (ℕ × Passed)

at-front : (xs ys : Ways) (k : ℕ) → k < length xs → slice_get (xs ++ ys) k ≡ slice_get xs k
at-front [] ys k l = absurd (omega (arith, l))
at-front (x ∷ xs) ys zero l = refl
at-front (x ∷ xs) ys (suc k) l = at-front xs ys k (omega (arith, l))

at-end : (xs ys : Ways) (y : List Passed) → slice_get (xs ++ y ∷ ys) (length xs) ≡ Some y
at-end [] ys y = refl
at-end (x ∷ xs) ys y = at-end xs ys y

abbrev next_way : Ways → ℕ × Passed → List Passed
next_way ways l = steps_in ways l.0 ++ l.1 ∷ []

longer : (ways : Ways) (x : List Passed) → length (ways ++ x ∷ []) ≡ suc (length ways)
longer [] x = refl
longer (y ∷ ways) x = ap suc (longer ways x)

-- ways that are there stay
kept : (ways : Ways) (links : Links) (k : ℕ) → k < length ways
    → slice_get (ways_behind ways links) k ≡ slice_get ways k
kept ways [] k l = refl
kept ways (m ∷ more) k l =
    let long = longer ways (next_way ways m) in
    kept (ways ++ next_way ways m ∷ []) more k (omega (arith, l, long))
    ∙ at-front ways (next_way ways m ∷ []) k l

steps_kept : (ways : Ways) (links : Links) (k : ℕ) → k < length ways
    → steps_in (ways_behind ways links) k ≡ steps_in ways k
steps_kept ways links k l = ap (λ (o : Option (List Passed)). unwrap_or o []) (kept ways links k l)

next_in : (ways : Ways) (links : Links) (k : ℕ) (l : ℕ × Passed) → slice_get links k ≡ Some l
    → l.0 < length ways + k
    → steps_in (ways_behind ways links) (length ways + k)
    ≡ steps_in (ways_behind ways links) l.0 ++ l.1 ∷ []
next_in ways [] k l s b = absurd (cc (s))
next_in ways (m ∷ more) zero l s b =
    let here : m ≡ l = some_is m l s in
    let long = longer ways (next_way ways m) in
    let place : length ways + 0 ≡ length ways = omega arith in
    let low : m.0 < length ways = subst (λ (x : ℕ × Passed). x.0 < length ways) (sym here)
    (omega (arith, b)) in
    let ends : steps_in (ways_behind ways (m ∷ more)) (length ways) ≡ next_way ways m =
    steps_kept (ways ++ next_way ways m ∷ []) more (length ways) (omega (arith, long))
    ∙ ap (λ (o : Option (List Passed)). unwrap_or o []) (at-end ways [] (next_way ways m)) in
    let front : steps_in ways m.0 ≡ steps_in (ways_behind ways (m ∷ more)) m.0 =
    sym (steps_kept ways (m ∷ more) m.0 low) in
    ap (steps_in (ways_behind ways (m ∷ more))) place
    ∙ (ends
    ∙ (ap (λ (x : List Passed). x ++ m.1 ∷ []) front
    ∙ ap (λ (x : ℕ × Passed). steps_in (ways_behind ways (m ∷ more)) x.0 ++ x.1 ∷ []) here))
  where
    some_is : (a c : ℕ × Passed) → Some a ≡ Some c → a ≡ c
    some_is a c e = ap (λ (o : Option (ℕ × Passed)). unwrap_or o a) e
next_in ways (m ∷ more) (suc k) l s b =
    let long = longer ways (next_way ways m) in
    let place : length ways + suc k ≡ length (ways ++ next_way ways m ∷ []) + k =
    omega (arith, long) in
    ap (steps_in (ways_behind ways (m ∷ more))) place
    ∙ next_in (ways ++ next_way ways m ∷ []) more k l s (omega (arith, b, long))

-- a way is an earlier one with its step behind it
pub steps_next : (links : Links) (k : ℕ) (l : ℕ × Passed) → AreBehind links
    → slice_get links k ≡ Some l
    → steps_at links (k + 1) ≡ steps_at links l.0 ++ l.1 ∷ []
steps_next links k l behind s =
    let low : l.0 ≤ k = behind k l s in
    let place : k + 1 ≡ 1 + k = omega arith in
    ap (steps_at links) place ∙ next_in ([] ∷ []) links k l s (omega (arith, low))

links-append : (ways : Ways) (xs ys : Links)
    → ways_behind ways (xs ++ ys) ≡ ways_behind (ways_behind ways xs) ys
links-append ways [] ys = refl
links-append ways (x ∷ xs) ys = links-append (ways ++ next_way ways x ∷ []) xs ys

count-ways : (ways : Ways) (links : Links)
    → length (ways_behind ways links) ≡ length ways + length links
count-ways ways [] = omega arith
count-ways ways (m ∷ more) =
    let long = longer ways (next_way ways m) in
    let rest = count-ways (ways ++ next_way ways m ∷ []) more in
    omega (arith, long, rest)

-- the ways of some links are those of more
pub steps_stay : (links more : Links) (k : ℕ) → k ≤ length links
    → steps_at (links ++ more) k ≡ steps_at links k
steps_stay links more k l =
    let count = count-ways ([] ∷ []) links in
    ap (λ (ways : Ways). steps_in ways k) (links-append ([] ∷ []) links more)
    ∙ steps_kept (ways_behind ([] ∷ []) links) more k (omega (arith, l, count))

pub none_behind : AreBehind []
none_behind k l s = absurd (cc (s))

-- what is there or the new one
get-more : (xs : Links) (y l : ℕ × Passed) (k : ℕ) → slice_get (xs ++ y ∷ []) k ≡ Some l
    → (slice_get xs k ≡ Some l) ⊎ ((y ≡ l) × (k ≡ length xs))
get-more [] y l zero e = inr (ap (λ (o : Option (ℕ × Passed)). unwrap_or o y) e, refl)
get-more [] y l (suc k) e = absurd (cc (e))
get-more (x ∷ xs) y l zero e = inl e
get-more (x ∷ xs) y l (suc k) e = by (get-more xs y l k e)
  where
    by : (slice_get xs k ≡ Some l) ⊎ ((y ≡ l) × (k ≡ length xs))
        → (slice_get xs k ≡ Some l) ⊎ ((y ≡ l) × (suc k ≡ suc (length xs)))
    by (inl h) = inl h
    by (inr h) = inr (h.0, ap suc h.1)

pub one_behind : (links : Links) (p : ℕ) (s : Passed) → AreBehind links → p ≤ length links
    → AreBehind (links ++ (p, s) ∷ [])
one_behind links p s h low k l e = by (get-more links (p, s) l k e)
  where
    by : (slice_get links k ≡ Some l) ⊎ (((p, s) ≡ l) × (k ≡ length links)) → l.0 ≤ k
    by (inl g) = h k l g
    by (inr g) =
        let first : p ≡ l.0 = ap (λ (x : ℕ × Passed). x.0) g.0 in
        omega (arith, first, g.1, low)

-- ---- the way of steps

way-append : (w : Way) (xs ys : List Passed)
    → way_behind w (xs ++ ys) ≡ way_behind (way_behind w xs) ys
way-append w [] ys = refl
way-append w (x ∷ xs) ys = way-append (step_tree x ∷ w) xs ys

pub way_step : (xs : List Passed) (x : Passed) → way_of (xs ++ x ∷ []) ≡ step_tree x ∷ way_of xs
way_step xs x = way-append [] xs (x ∷ [])

take-next : (xs : List Passed) (k : ℕ) (d : Passed) → k < length xs
    → take (suc k) xs ≡ take k xs ++ get_or xs k d ∷ []
take-next [] k d l = absurd (omega (arith, l))
take-next (x ∷ xs) zero d l = refl
take-next (x ∷ xs) (suc k) d l =
    ap (λ (t : List Passed). x ∷ t) (take-next xs k d (omega (arith, l)))

-- the way of one step more
pub way_next : (xs : List Passed) (k : ℕ) (x d : Passed) → k < length xs → x ≡ get_or xs k d
    → way_of (take (k + 1) xs) ≡ step_tree x ∷ way_of (take k xs)
way_next xs k x d l e =
    let next : k + 1 ≡ suc k = omega arith in
    ap (λ (n : ℕ). way_of (take n xs)) next
    ∙ (ap way_of (take-next xs k d l)
    ∙ (way_step (take k xs) (get_or xs k d)
    ∙ ap (λ (y : Passed). step_tree y ∷ way_of (take k xs)) (sym e)))

-- one step more is read, from the end of a way towards the root
pub read_on : (links : Links) (number at : ℕ) (read : List Passed) (l : ℕ × Passed)
    → AreBehind links → 0 < at → slice_get links (at - 1) ≡ Some l
    → steps_at links number ≡ steps_at links at ++ reverse read
    → steps_at links number ≡ steps_at links l.0 ++ reverse (read ++ l.1 ∷ [])
read_on links number at read l behind some s e =
    let place : at ≡ at - 1 + 1 = omega (arith, some) in
    let ends : steps_at links at ≡ steps_at links l.0 ++ l.1 ∷ [] =
    ap (steps_at links) place ∙ steps_next links (at - 1) l behind s in
    e
    ∙ (ap (λ (x : List Passed). x ++ reverse read) ends
    ∙ (append_assoc (steps_at links l.0) (l.1 ∷ []) (reverse read)
    ∙ ap (λ (x : List Passed). steps_at links l.0 ++ x) (sym (reverse-append read (l.1 ∷ [])))))

-- the last step that is read is the first of the way
pub read_all : (links : Links) (number at : ℕ) (read : List Passed) → at ≤ 0
    → steps_at links number ≡ steps_at links at ++ reverse read
    → reverse read ≡ steps_at links number
read_all links number at read low e =
    let root : at ≡ 0 = omega (arith, low) in
    let none : steps_at links at ≡ [] =
    ap (steps_at links) root ∙ steps_kept ([] ∷ []) links 0 (omega arith) in
    sym (e ∙ ap (λ (x : List Passed). x ++ reverse read) none)

-- the path of one step more
pub path_next : (xs : List Passed) (k : ℕ) (x d : Passed) (m more : List PathStep)
    → k < length xs → x ≡ get_or xs k d → more ≡ m ++ marks (step_tree x)
    → m ≡ path (way_of (take k xs)) → more ≡ path (way_of (take (k + 1) xs))
path_next xs k x d m more l e pushed h =
    pushed
    ∙ (ap (λ (p : List PathStep). p ++ marks (step_tree x)) h
    ∙ sym (ap path (way_next xs k x d l e)))
