-- A side of a term that is past the limits takes its sequent past them; the sides of a list, as the
-- program gathers them.
use Rattle.std.proofs.Common.{◌≡◌, ◌≢◌, ℕ, suc, ◌+◌, ◌<◌, ◌≤◌, max, refl, sym, ap, ◌∙◌}
use Rattle.std.proofs.Common.{List, [], ◌∷◌, ◌++◌, map, length, drop, get_or, Bool, true, false}
use Rattle.std.proofs.Common.{◌&&◌, nat_le, add-one, arith, Ok, Err}
use Rattle.std.specs.Prelude.{if◌then◌else◌}
use Rattle.std.proofs.Math.Seq.{drop-cons}
use Rattle.sq_base.specs.declared.sort.Sort.{Sort}
use Rattle.sq_term.specs.declared.term.Side.{Side}
use Rattle.sq_term.specs.declared.term.Side.TheVariants.{Both}
use Rattle.sq_term.specs.declared.term.SizeFault.TheVariants as size_fault
use Rattle.sq_term.specs.declared.term.Term.{Term}
use Rattle.sq_term.specs.Measure.{size, depth}
use Rattle.sq_term.specs.Syntax.{TermTree}
use Rattle.sq_term.specs.View.{term_tree}
use Rattle.sq_subst.specs.Projection.{projected}
use Rattle.sq_subst.specs.Room.{within}
use Rattle.sq_system.specs.Limits.{most_nodes, most_depth}
use Rattle.sq_system.specs.Sequents.{SequentTree, local}
use Rattle.sq_system.specs.Sizes.{all_size, all_depth, fits}
use Rattle.sq_system.specs.declared.fault.RuleFault.{RuleFault}
use Rattle.sq_system.specs.declared.fault.RuleFault.TheVariants.{TooLarge, NoMemory}
use Rattle.sq_formula.specs.Refusals.{IsPastLimits}
use Rattle.sq_sequent.specs.Sides.{on_side}
use Rattle.sq_rules_logic.specs.SideLimits.{side_fits, sides_fit}
use Rattle.sq_sequent.specs.Logic.{within_limits}
use Rattle.sq_sequent.proofs.Held.{larger}

pub refused : (side : Side) (t : TermTree)
    → within most_nodes (projected side t) ≡ Err size_fault.TooLarge → side_fits side t ≡ false
refused side t = go (side_fits side t)
  where
    go : (b : Bool) → (if b then Ok (projected side t) else Err size_fault.TooLarge)
        ≡ Err size_fault.TooLarge → b ≡ false
    go true e = absurd (cc)
    go false e = refl

-- what is at least as large as hypotheses one of which does not fit does not fit
sides_unfit : (side : Side) (H : List TermTree) (m d : ℕ) → sides_fit side H ≡ false
    → all_size (map (projected side) H) ≤ m → all_depth (map (projected side) H) ≤ d
    → (nat_le m most_nodes && nat_le d most_depth) ≡ false
sides_unfit side [] m d h i j = absurd (cc)
sides_unfit side (t ∷ ts) m d h i j =
    go (side_fits side t) refl h (λ k. sides_unfit side ts m d k (omega arith) (omega arith))
  where
    go : (b : Bool) → side_fits side t ≡ b → (b && sides_fit side ts) ≡ false
        → (sides_fit side ts ≡ false → (nat_le m most_nodes && nat_le d most_depth) ≡ false)
        → (nat_le m most_nodes && nat_le d most_depth) ≡ false
    go true e k further = further k
    go false e k further =
        larger (size (projected side t)) (depth (projected side t)) m d e (omega arith)
        (omega arith)

hyps-too-large : (side : Side) (vars : List Sort) (H : List TermTree) (g : TermTree)
    → sides_fit side H ≡ false → fits (on_side side (local Both vars H g)) ≡ false
hyps-too-large side vars H g h =
    sides_unfit side H (all_size (map (projected side) H) + size (projected side g))
    (max (all_depth (map (projected side) H)) (depth (projected side g))) h (omega arith)
    (omega arith)

goal-too-large : (side : Side) (vars : List Sort) (H : List TermTree) (g : TermTree)
    → side_fits side g ≡ false → fits (on_side side (local Both vars H g)) ≡ false
goal-too-large side vars H g h =
    larger (size (projected side g)) (depth (projected side g))
    (all_size (map (projected side) H) + size (projected side g))
    (max (all_depth (map (projected side) H)) (depth (projected side g))) h (omega arith)
    (omega arith)

-- ---- lists

trees-push : (xs : List Term) (x : Term) (y : TermTree) (ys : List TermTree) → term_tree x ≡ y
    → map term_tree (xs ++ x ∷ []) ++ ys ≡ map term_tree xs ++ (y ∷ ys)
trees-push [] x y ys e = ap (λ t. t ∷ ys) e
trees-push (z ∷ xs) x y ys e = ap (λ t. term_tree z ∷ t) (trees-push xs x y ys e)

rest_is : (terms : List Term) (i : ℕ) (t : Term) → i < length terms → t ≡ get_or terms i t
    → drop i terms ≡ t ∷ drop (i + 1) terms
rest_is terms i t h e = rw add-one
    (drop-cons terms i t h ∙ ap (λ x. x ∷ drop (suc i) terms) (sym e))

pub sides-kept : (side : Side) (terms out out' : List Term) (i : ℕ) (t x : Term) (r : List TermTree)
    → i < length terms → t ≡ get_or terms i t
    → term_tree x ≡ projected side (term_tree t) → out' ≡ out ++ x ∷ []
    → map term_tree out ++ map (projected side) (map term_tree (drop i terms)) ≡ r
    → map term_tree out' ++ map (projected side) (map term_tree (drop (i + 1) terms)) ≡ r
sides-kept side terms out out' i t x r h e p o inv =
    ap (λ l. map term_tree l ++ map (projected side) (map term_tree (drop (i + 1) terms))) o
    ∙ (trees-push out x (projected side (term_tree t))
    (map (projected side) (map term_tree (drop (i + 1) terms))) p
    ∙ (ap (λ l. map term_tree out ++ map (projected side) (map term_tree l))
    (sym (rest_is terms i t h e)) ∙ inv))

-- what does not fit behind item i does not fit from it on
pub fit-step : (side : Side) (terms : List Term) (i : ℕ) (t : Term) → i < length terms
    → t ≡ get_or terms i t
    → (sides_fit side (map term_tree (drop i terms)) ≡ false
    → sides_fit side (map term_tree terms) ≡ false)
    → sides_fit side (map term_tree (drop (i + 1) terms)) ≡ false
    → sides_fit side (map term_tree terms) ≡ false
fit-step side terms i t h e inv f =
    inv (ap (λ l. sides_fit side (map term_tree l)) (rest_is terms i t h e) ∙ second_fails
    (side_fits side (term_tree t)) (sides_fit side (map term_tree (drop (i + 1) terms))) f)
  where
    second_fails : (a b : Bool) → b ≡ false → (a && b) ≡ false
    second_fails true b e = e
    second_fails false b e = refl

pub fit-stop : (side : Side) (terms : List Term) (i : ℕ) (t : Term) → i < length terms
    → t ≡ get_or terms i t
    → (sides_fit side (map term_tree (drop i terms)) ≡ false
    → sides_fit side (map term_tree terms) ≡ false)
    → side_fits side (term_tree t) ≡ false → sides_fit side (map term_tree terms) ≡ false
fit-stop side terms i t h e inv f =
    inv (ap (λ l. sides_fit side (map term_tree l)) (rest_is terms i t h e) ∙ ap
    (λ b. b && sides_fit side (map term_tree (drop (i + 1) terms))) f)

pub second-fails : (a b : Bool) → b ≡ false → (a && (b && true)) ≡ false
second-fails true b e = ap (λ x. x && true) e
second-fails false b e = refl

-- ---- why a row has no premises

pub answered : (side : Side) (t : TermTree) (c : TermTree)
    → within most_nodes (projected side t) ≡ Ok c → c ≡ projected side t
answered side t c = go (side_fits side t)
  where
    go : (b : Bool) → (if b then Ok (projected side t) else Err size_fault.TooLarge) ≡ Ok c
        → c ≡ projected side t
    go true e = cc
    go false e = absurd (cc)

pub hyps-past : (e : RuleFault) (side : Side) (vars : List Sort) (H : List TermTree) (g : TermTree)
    → IsPastLimits e (sides_fit side H) → IsPastLimits e (fits (on_side side (local Both vars H g)))
hyps-past e side vars H g h n = ((h n).0, hyps-too-large side vars H g (h n).1)

pub goal-past : (e : RuleFault) (side : Side) (vars : List Sort) (H : List TermTree) (g : TermTree)
    → IsPastLimits e (side_fits side g) → IsPastLimits e (fits (on_side side (local Both vars H g)))
goal-past e side vars H g h n = ((h n).0, goal-too-large side vars H g (h n).1)

pub first-refused : (e : RuleFault) (p q : SequentTree) → IsPastLimits e (fits p) → e ≢ NoMemory
    → within_limits (p ∷ q ∷ []) ≡ Err e
unfolding within_limits
first-refused e p q h n =
    ap (λ b. if b && (fits q && true) then Ok (p ∷ q ∷ []) else Err TooLarge) (h n).1 ∙ ap Err
    (sym (h n).0)

pub second-refused : (e : RuleFault) (p q : SequentTree) → IsPastLimits e (fits q) → e ≢ NoMemory
    → within_limits (p ∷ q ∷ []) ≡ Err e
unfolding within_limits
second-refused e p q h n =
    ap (λ b. if b then Ok (p ∷ q ∷ []) else Err TooLarge)
    (second-fails (fits p) (fits q) (h n).1) ∙ ap Err (sym (h n).0)

pub ruleset side_rules = (answered, refused)

pub ruleset sides_rules = (sides-kept, fit-step, fit-stop)

pub ruleset past_rules = (hyps-past, goal-past)
